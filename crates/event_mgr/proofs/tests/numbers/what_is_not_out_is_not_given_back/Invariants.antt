use Rattle.turn_cell.specs.Calls.{IsOf}
use Rattle.event_mgr.proofs.tests.numbers.what_is_not_out_is_not_given_back.Given as goal

abbrev pub invariant-loop-call : goal.invariant-loop-call
invariant-loop-call g l = IsOf l.cell l.pass
