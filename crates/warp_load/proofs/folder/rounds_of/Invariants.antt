use Rattle.std.proofs.Common.{◌≡◌, ◌+◌, ◌%◌, map}
use Rattle.std.specs.List.{range_with_len}
use Rattle.warp_load.proofs.folder.rounds_of.Given as goal

-- this many bytes are there
abbrev pub invariant-loop-k : goal.invariant-loop-k
invariant-loop-k l = l.bytes.items ≡ map (λ k. l.from + k % l.period) (range_with_len 0 l.k)
