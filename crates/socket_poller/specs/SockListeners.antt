-- To be believed: what a listener over a socket tells: its counts.
use Rattle.std.specs.Prelude.{None}
use Rattle.outside.specs.ListenCauses.{ListenerTold}
use Rattle.socket_poller.specs.declared.sock_listener.SockListener.{SockListener}

-- it tells no plans
abbrev pub told_of : SockListener → ListenerTold
told_of listener = record {
  accepted = listener.accepted.n;
  waits = listener.waits.n;
  faults = listener.faults.n;
  failed_row = listener.failed_row.n;
  plans = None;
}

-- nothing was asked of it
abbrev pub untouched_listener : ListenerTold
untouched_listener = record { accepted = 0; waits = 0; faults = 0; failed_row = 0; plans = None }
