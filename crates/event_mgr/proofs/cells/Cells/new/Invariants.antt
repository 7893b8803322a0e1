use Rattle.std.proofs.Common.{◌≡◌, ◌+◌, length, vec_capacity}
use Rattle.std.specs.Vec.Iter.{into_iter_items, into_iter_len}
use Rattle.event_mgr.proofs.RowLemmas.{AreMade, AreLeft}
use Rattle.event_mgr.proofs.cells.Cells.new.Given as goal

abbrev pub invariant-loop-part : goal.invariant-loop-part
invariant-loop-part g l = record {
  cells_room : vec_capacity l.cells ≡ length l.fn.parts.items;
  passes_room : vec_capacity l.passes ≡ length l.fn.parts.items;
  count : into_iter_len l.part-iterator + length l.cells.items ≡ length l.fn.parts.items;
  made : AreMade l.cells.items l.passes.items;
  left : AreLeft l.fn.parts.items (length l.cells.items) (into_iter_items l.part-iterator);
}
