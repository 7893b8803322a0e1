use Rattle.turn_cell.specs.Calls.{IsOf}
use Rattle.event_mgr.proofs.tests.numbers.draws_give_the_numbers_in_order_and_then_none.Given as goal

abbrev pub invariant-loop : goal.invariant-loop
invariant-loop g l = IsOf l.cell l.pass
