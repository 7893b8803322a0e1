use Rattle.std.proofs.Common.{rules, [], ◌∷◌, sym, subst}
use Rattle.event_mgr.specs.Rows.{AreUnused}
use Rattle.event_mgr.proofs.StripeLemmas.{stripe_stands, stripe_name}
use Rattle.event_mgr.proofs.RowLemmas.{fresh_next}
use Rattle.event_mgr.proofs.stripes.all_stripes.Goals as goal

pub loop-stripe-preserved : goal.loop-stripe-preserved
loop-stripe-preserved g c =
    let v = c.loop-stripe.invariant in
    let e = c.in_ok-part.ensures in record {
      count = search rules;
      room = search rules;
      fresh =
          subst (AreUnused (stripe_stands g.T.Load.tag) stripe_name) (sym c.push_reserved.ensures.items)
          (fresh_next (stripe_stands g.T.Load.tag) stripe_name c.loop-stripe.parts.items c.loop-stripe.stripe
          c.in_ok-part.part v.count (λ k. e.0 k ∷ e.1 k ∷ []) e.2 v.fresh);
    }
