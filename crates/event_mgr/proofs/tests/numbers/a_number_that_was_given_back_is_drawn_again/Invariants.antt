use Rattle.turn_cell.specs.Calls.{IsOf}
use Rattle.event_mgr.proofs.tests.numbers.a_number_that_was_given_back_is_drawn_again.Given as goal

abbrev pub invariant-loop-call : goal.invariant-loop-call
invariant-loop-call g l = IsOf l.cell l.pass
