use Rattle.turn_cell.specs.Calls.{IsOf}
use Rattle.warp_tally.proofs.tests.openings_of_one_descriptor_are_told_apart.Given as goal

abbrev pub invariant-loop-call : goal.invariant-loop-call
invariant-loop-call g l = IsOf l.cell l.pass
