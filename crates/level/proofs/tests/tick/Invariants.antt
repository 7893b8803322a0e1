use Rattle.std.proofs.Common.{◌≡◌}
use Rattle.turn_cell.specs.Calls.{IsOf, view_of}
use Rattle.level.proofs.tests.tick.Given as goal

abbrev pub invariant-loop : goal.invariant-loop
invariant-loop g l =
    record { own : IsOf l.cell l.pass; classes : (view_of l.pass).classes ≡ (view_of l.fn.pass).classes }
