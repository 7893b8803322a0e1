use Rattle.std.proofs.Common.{◌≡◌, ◌+◌, ◌≤◌, ◌++◌, length, map, vec_capacity}
use Rattle.std.specs.Vec.Iter.{into_iter_items, into_iter_len}
use Rattle.warp_core.specs.Rows.{passes_of}
use Rattle.warp_core.proofs.making.Parts.fill.Given as goal

abbrev pub invariant-loop-row : goal.invariant-loop-row
invariant-loop-row g l = record {
  many : length l.passes.items + into_iter_len l.row-iterator ≡ length l.fn.rows.items;
  both : length l.kits.items ≡ length l.passes.items;
  room : length l.passes.items + into_iter_len l.row-iterator ≤ vec_capacity l.passes;
  space : length l.kits.items + into_iter_len l.row-iterator ≤ vec_capacity l.kits;
  passes : l.passes.items ++ map passes_of (into_iter_items l.row-iterator) ≡ map passes_of l.fn.rows.items;
  books : map (λ kit. kit.book) l.kits.items ++ map (λ row. row.runner.book) (into_iter_items l.row-iterator)
      ≡ map (λ row. row.runner.book) l.fn.rows.items;
  pollers : map (λ kit. kit.poller) l.kits.items ++ map (λ row. row.runner.poller)
      (into_iter_items l.row-iterator) ≡ map (λ row. row.runner.poller) l.fn.rows.items;
  clocks : map (λ kit. kit.clock) l.kits.items ++ map (λ row. row.runner.clock)
      (into_iter_items l.row-iterator) ≡ map (λ row. row.runner.clock) l.fn.rows.items;
}
