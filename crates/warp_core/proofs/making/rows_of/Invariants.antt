use Rattle.std.proofs.Common.{◌≡◌, ◌+◌, ◌++◌, length, map, vec_capacity}
use Rattle.std.specs.Prelude.{All, None}
use Rattle.std.specs.Arc.{arc_value}
use Rattle.std.specs.Vec.Iter.{into_iter_items, into_iter_len}
use Rattle.warp_core.specs.Making.{IsPlain}
use Rattle.warp_core.specs.Rows.{last_of, passes_of, seconds_of}
use Rattle.warp_core.specs.SweepTimes.{IsFirstAlone}
use Rattle.warp_core.proofs.making.rows_of.Given as goal

abbrev pub invariant-loop-kit : goal.invariant-loop-kit
invariant-loop-kit g l = record {
  room : vec_capacity l.rows ≡ length l.fn.passes.items;
  left : into_iter_len l.own ≡ into_iter_len l.kit-iterator;
  count : into_iter_len l.own + length l.rows.items ≡ length l.fn.passes.items;
  many : length l.fn.passes.items ≡ length l.fn.kits.items;
  passes : map passes_of l.rows.items ++ map (λ p. p) (into_iter_items l.own)
      ≡ map (λ p. p) l.fn.passes.items;
  books : map (λ row. row.runner.book) l.rows.items ++ map (λ kit. kit.book) (into_iter_items l.kit-iterator)
      ≡ map (λ kit. kit.book) l.fn.kits.items;
  plain : All (IsPlain (arc_value l.shared) l.limit) l.rows.items;
  alone : IsFirstAlone l.seconds (map (λ row. seconds_of row.beats) l.rows.items);
  fresh : All (λ row. last_of row.beats ≡ None) l.rows.items;
}
