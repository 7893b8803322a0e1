use Rattle.turn_cell.specs.Calls.{IsOf}
use Rattle.warp_tally.proofs.tests.a_finish_counts_once_and_after_its_accept.Given as goal

abbrev pub invariant-loop-call : goal.invariant-loop-call
invariant-loop-call g l = IsOf l.cell l.pass
