use Rattle.std.proofs.Common.{◌≡◌, ◌≤◌, ◌<◌, length, vec_capacity}
use Rattle.warp_passes.specs.Levels.{AreNewPasses}
use Rattle.warp_passes.proofs.making.shared_among.Given as goal

abbrev pub invariant-loop : goal.invariant-loop
invariant-loop g l = record {
  some : 0 < l.counter;
  count : length l.passes.items ≡ l.counter;
  room : l.fn.dispatchers ≤ vec_capacity l.passes;
  new : AreNewPasses l.shared l.passes.items;
}
