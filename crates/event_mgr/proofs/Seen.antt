-- What a pass of the manager has seen of one stripe's history, for the crates above.
use Rattle.std.proofs.Common.{◌≡◌, ℕ, inl, List, [], ◌∷◌, ◌++◌, sym, refl, ap, ◌∙◌, subst}
use Rattle.std.specs.Prelude.{Option, Some, None, slice_get}
use Rattle.reg_keys.specs.declared.entry.Entry.{Entry}
use Rattle.reg_keys.specs.Tests.{IsIn}
use Rattle.reg_keys.specs.Replies.{IsLegal}
use Rattle.turn_cell.specs.declared.view.View.{View}
use Rattle.turn_cell.specs.History.{Log}
use Rattle.turn_cell.specs.View.{seat_of}
use Rattle.event_mgr.specs.Stripes.{past_in, StripeEntered}
use Rattle.event_mgr.specs.Manager.{MgrView, IsLawful, EnteredAt, seen_in, seen_by}
use Rattle.event_mgr.proofs.StripeLemmas.{past_in-more}
use Rattle.event_mgr.specs.Laws.{stripe_after}

-- it is legal, at any time
pub legal_seen : (v : MgrView) → IsLawful v → (s : ℕ) → IsLegal s 1 (past_in (seen_in s v))
legal_seen v l s = by_place (slice_get v.stripes s) refl
  where
    by_place : (o : Option (View Entry)) → slice_get v.stripes s ≡ o → IsLegal s 1 (past_in (seen_by o))
    by_place None is = tt
    by_place (Some x) is = l.legal s x is

-- it goes on from what was seen, and ends with the entry that was made
pub entered_seen : (s : ℕ) (e : Entry) (v w : MgrView) → EnteredAt s e v w
    → (between : Log Entry) × (n : ℕ) × (seen_in s w ≡ (seen_in s v ++ between) ++ (n, e) ∷ [])
entered_seen s e v w a = let k = a.stripe.moved in (
  k.between,
  seat_of a.stripe.before,
  ap seen_by (stripe_after s (StripeEntered s e) v w a)
      ∙ (k.seen ∙ ap (λ (l : Log Entry). (l ++ k.between) ++ (seat_of a.stripe.before, e) ∷ [])
      (sym (ap seen_by a.stripe.there))),
)

-- so the entry is one of the past
pub entered_is_in : (s : ℕ) (e : Entry) (v w : MgrView) → EnteredAt s e v w → IsIn e (past_in (seen_in s w))
entered_is_in s e v w a =
    let h = entered_seen s e v w a in
    subst (λ (l : List Entry). IsIn e l) (sym (ap past_in h.2 ∙ past_in-more (seen_in s v ++ h.0) h.1 e))
    (inl refl)
