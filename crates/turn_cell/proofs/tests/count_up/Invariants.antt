use Rattle.turn_cell.specs.Calls.{IsOf}
use Rattle.turn_cell.proofs.tests.count_up.Given as goal

abbrev pub invariant-loop : goal.invariant-loop
invariant-loop g l = IsOf l.cell l.pass
