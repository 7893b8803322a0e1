use Rattle.std.proofs.Common.{length}
use Rattle.event_mgr.specs.Rows.{AreOf}
use Rattle.event_mgr.proofs.RowLemmas.{Back, JoinsTo}
use Rattle.event_mgr.proofs.cells.Cells.join.Given as goal

abbrev pub invariant-loop-last : goal.invariant-loop-last
invariant-loop-last g l = record {
  own : AreOf l.self l.pass;
  back : Back JoinsTo l.fn.pass.passes.items l.fn.other.passes.items l.pass.passes.items l.others.items;
}

abbrev pub decreases-loop-last : goal.decreases-loop-last
decreases-loop-last g l = length l.others.items
