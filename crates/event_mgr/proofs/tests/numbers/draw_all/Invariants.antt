use Rattle.turn_cell.specs.Calls.{IsOf}
use Rattle.event_mgr.proofs.tests.numbers.draw_all.Given as goal

abbrev pub invariant-loop-number : goal.invariant-loop-number
invariant-loop-number l = IsOf l.cell l.pass
