-- To be believed: what a scripted listener will still do, and what it tells.
use Rattle.std.specs.Prelude.{List, None}
use Rattle.outside.specs.ListenCauses.{ListenerTold}
use Rattle.piece_net.specs.declared.piece_listener.AcceptEvent.{AcceptEvent}
use Rattle.piece_net.specs.declared.piece_listener.PieceListener.{PieceListener}

-- the events that weren't met yet
abbrev pub events_of : PieceListener → List AcceptEvent
events_of listener = listener.events.items

-- it tells its counts and no plans
abbrev pub told_of : PieceListener → ListenerTold
told_of listener = record {
  accepted = listener.accepted.n;
  waits = listener.waits.n;
  faults = listener.faults.n;
  failed_row = listener.failed_row.n;
  plans = None;
}

-- nothing was asked of it
abbrev pub untouched_listener : ListenerTold
untouched_listener = record { accepted = 0; waits = 0; faults = 0; failed_row = 0; plans = None }
