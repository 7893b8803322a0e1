use Rattle.std.proofs.Common.{suc, ◌∷◌}
use Rattle.level.specs.Meanings.{AllAreOf, KeepOwn}
use Rattle.level.specs.Gathering.{AreGathered}
use Rattle.level.proofs.level.gather.Given as goal

abbrev pub invariant-loop-other : goal.invariant-loop-other
invariant-loop-other g l = let m = g.P.Share.meaning in record {
  own : AllAreOf m l.of (l.first ∷ l.other-items);
  keeps : KeepOwn m (l.fn.first ∷ l.fn.others) (l.first ∷ l.other-items);
  gathered : AreGathered m (l.fn.first ∷ l.fn.others) (suc l.other-index) (l.first ∷ l.other-items);
}
