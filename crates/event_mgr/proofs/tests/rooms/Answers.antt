use Rattle.std.proofs.Common.{rules, [], ◌∷◌, Bool, refl, sym, subst}
use Rattle.event_mgr.specs.Rows.{AreUnused}
use Rattle.event_mgr.proofs.RowLemmas.{fresh_next}
use Rattle.event_mgr.proofs.tests.rooms.Goals as goal

pub loop-stripe-preserved : goal.loop-stripe-preserved
loop-stripe-preserved c = let v = c.loop-stripe.invariant in record {
  count = search rules;
  room = search rules;
  fresh =
      subst (AreUnused {E = Bool} (λ r h. Unit {0}) (λ r. r.stripe ∷ 1 ∷ []))
      (sym c.push_reserved.ensures.items)
      (fresh_next {E = Bool} (λ r h. Unit {0})
      (λ r. r.stripe ∷ 1 ∷ []) c.loop-stripe.rooms.items c.loop-stripe.stripe _ v.count refl tt v.fresh);
}
