use Rattle.std.proofs.Common.{◌≡◌, ◌≤◌, ◌++◌, length, take}
use Rattle.percent_encoding.specs.Percent.{percent_decode as decoded}
use Rattle.percent_encoding.specs.Iter.{decoded_bytes}
use Rattle.path_rules.proofs.segments.decode.Given as goal

abbrev pub invariant-loop-byte : goal.invariant-loop-byte
invariant-loop-byte l = record {
  can_next : (goal.iterator-loop-byte).can_next l.byte-iterator;
  is_finite : (goal.iterator-loop-byte).is_finite l.byte-iterator;
  in_range : l.len ≤ length l.bytes;
  so_far : take l.len l.bytes ++ decoded_bytes l.byte-iterator ≡ decoded l.segment;
}
