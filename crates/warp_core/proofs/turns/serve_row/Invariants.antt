use Rattle.warp_core.specs.Rows.{HasGoneOn, Serves, beat_of}
use Rattle.warp_core.specs.SweepTimes.{KeepsOn}
use Rattle.warp_core.proofs.turns.serve_row.Given as goal

abbrev pub invariant-loop : goal.invariant-loop
invariant-loop g l = record {
  serves : Serves g.B.Book.told g.P.Poller.meaning.faults l.shared l.row;
  goes : HasGoneOn l.initial.row l.row;
  on : KeepsOn (beat_of g.C.Clock.told l.initial.row) (beat_of g.C.Clock.told l.row);
}
