use Rattle.std.proofs.Common.{◌≡◌, ◌≤◌, ◌<◌, vec_len, vec_capacity}
use Rattle.level.specs.Leveling.{AreOf, views_of, HoldsEachOnce, AreFresh}
use Rattle.level.proofs.make.cell_with_passes.Given as goal

abbrev pub invariant-loop : goal.invariant-loop
invariant-loop g l = record {
  some : 0 < l.counter;
  count : vec_len l.passes ≡ l.counter;
  room : l.fn.count ≤ vec_capacity l.passes;
  own : AreOf l.cell l.passes.items;
  once : HoldsEachOnce (views_of l.passes.items);
  fresh : AreFresh (g.P.Part.name l.fn.part) (views_of l.passes.items);
}
