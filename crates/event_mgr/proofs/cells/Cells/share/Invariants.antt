use Rattle.std.proofs.Common.{◌≡◌, length}
use Rattle.event_mgr.specs.Rows.{AreOf}
use Rattle.event_mgr.proofs.RowLemmas.{Beside, SharesTo}
use Rattle.event_mgr.proofs.cells.Cells.share.Given as goal

abbrev pub invariant-loop-stripe : goal.invariant-loop-stripe
invariant-loop-stripe g l = record {
  end : l.stripe-end ≡ length l.self.cells.items;
  from : AreOf l.self l.from;
  to : AreOf l.self l.to;
  beside : Beside SharesTo l.fn.from.passes.items l.fn.to.passes.items l.from.passes.items
      l.to.passes.items l.stripe;
}
