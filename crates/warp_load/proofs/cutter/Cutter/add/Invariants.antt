use Rattle.std.proofs.Common.{◌≡◌, ℕ, ◌+◌, ◌<◌, ◌≤◌, ◌++◌, List, length, vec_len}
use Rattle.warp_load.specs.Cutting.{IsCut, IsSameCutter, next_length}
use Rattle.warp_load.proofs.cutter.Cutter.add.Given as goal

-- the bytes before the rest are cut
abbrev pub invariant-loop-rest : goal.invariant-loop-rest
invariant-loop-rest l = record {
  cut : (front : List ℕ) → IsCut l.initial.self front
      → (done : List ℕ) × (l.bytes ≡ done ++ l.rest) × IsCut l.self (front ++ done);
  same : IsSameCutter l.initial.self l.self;
  few : vec_len l.self.steps + length l.rest ≤ vec_len l.initial.self.steps + length l.bytes;
  short : vec_len l.self.piece < next_length l.self;
}

abbrev pub decreases-loop-rest : goal.decreases-loop-rest
decreases-loop-rest l = length l.rest
