use Rattle.std.proofs.Common.{All}
use Rattle.level.specs.Meanings.{HoldAllSeats}
use Rattle.warp_passes.specs.Passes.{AreOf}
use Rattle.warp_passes.specs.Cells.{serve_meaning}
use Rattle.warp_passes.proofs.tests.play.Given as goal

abbrev pub invariant-loop-step : goal.invariant-loop-step
invariant-loop-step g l = record {
  own : All (λ p. AreOf l.shared p) l.passes.items;
  seats : HoldAllSeats serve_meaning l.passes.items;
}
