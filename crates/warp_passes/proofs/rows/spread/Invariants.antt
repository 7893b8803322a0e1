use Rattle.std.proofs.Common.{◌≡◌, suc, ◌∷◌, map}
use Rattle.level.specs.Meanings.{AllAreOf, KeepOwn}
use Rattle.level.specs.Gathering.{HaveTold}
use Rattle.warp_passes.proofs.rows.spread.Given as goal

abbrev pub invariant-loop-other : goal.invariant-loop-other
invariant-loop-other g l = let m = g.P.ShareRow.meaning.passes in record {
  own : AllAreOf m l.of (l.first ∷ l.other-items);
  keeps : KeepOwn m (l.fn.first ∷ l.fn.others) (l.first ∷ l.other-items);
  rest : map g.P.ShareRow.meaning.rest (l.first ∷ l.other-items)
      ≡ map g.P.ShareRow.meaning.rest (l.fn.first ∷ l.fn.others);
  told : HaveTold m (l.fn.first ∷ l.fn.others) (suc l.other-index) (l.first ∷ l.other-items);
}
