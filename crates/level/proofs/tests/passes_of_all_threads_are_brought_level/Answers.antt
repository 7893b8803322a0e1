use Rattle.std.proofs.Common.{sym, subst}
use Rattle.level.specs.Leveling.{HoldsEachOnce, views_of}
use Rattle.level.specs.Laws.{once_by}
use Rattle.level.proofs.tests.passes_of_all_threads_are_brought_level.Goals as goal

pub bring_level-requires-clause-seats : goal.bring_level-requires-clause-seats
bring_level-requires-clause-seats g c =
    λ k. subst (λ ps. HoldsEachOnce (views_of ps)) (sym c.as_mut_slice.ensures.value)
    (once_by _ _ c.tick_in_threads.ensures.classes c.in_ok-cell.ensures.once)
