use Rattle.std.proofs.Common.{◌≡◌, length, vec_capacity}
use Rattle.event_mgr.specs.Rows.{AreOf}
use Rattle.event_mgr.proofs.RowLemmas.{Through, SplitsTo, AreOfFirst}
use Rattle.event_mgr.proofs.cells.Cells.split.Given as goal

abbrev pub invariant-loop-stripe : goal.invariant-loop-stripe
invariant-loop-stripe g l = record {
  end : l.stripe-end ≡ length l.self.cells.items;
  room : vec_capacity l.passes ≡ length l.self.cells.items;
  own : AreOf l.self l.pass;
  first : AreOfFirst l.self.cells.items l.passes.items;
  through : Through SplitsTo l.fn.pass.passes.items l.pass.passes.items l.passes.items l.stripe;
}
