use Rattle.std.proofs.Common.{◌≡◌, ◌+◌, ◌++◌, length, map, vec_capacity}
use Rattle.std.specs.Vec.Iter.{into_iter_items, into_iter_len}
use Rattle.warp_passes.proofs.tests.rows_of.Given as goal

abbrev pub invariant-loop-pass : goal.invariant-loop-pass
invariant-loop-pass g l = record {
  room : vec_capacity l.rows ≡ length l.fn.passes.items;
  count : into_iter_len l.pass-iterator + length l.rows.items ≡ length l.fn.passes.items;
  same : map (λ row. row.pass) l.rows.items ++ into_iter_items l.pass-iterator ≡ l.fn.passes.items;
}
