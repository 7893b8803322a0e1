use Rattle.turn_cell.specs.Calls.{IsOf}
use Rattle.turn_cell.proofs.tests.join_all.Given as goal

abbrev pub invariant-loop-other : goal.invariant-loop-other
invariant-loop-other l = IsOf l.cell l.pass
