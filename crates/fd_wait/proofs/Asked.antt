-- Asks for a flag, one after another.
use Rattle.std.proofs.Common.{◌≡◌, ◌⊎◌, ⊎_elim, List, [], ◌∷◌, ◌++◌, sym, ap, ◌∙◌, subst, arith}
use Rattle.std.proofs.lemmas.List.{append-nil, map-append}
use Rattle.reg_keys.specs.declared.registration.Key.{Key}
use Rattle.reg_keys.specs.declared.entry.AskOutcome.{AskOutcome}
use Rattle.reg_keys.specs.declared.entry.AskOutcome.TheVariants as Asked
use Rattle.reg_keys.specs.declared.entry.Entry.{Entry}
use Rattle.reg_keys.specs.declared.entry.Entry.TheVariants.{Ask}
use Rattle.turn_cell.specs.declared.view.View.{View}
use Rattle.event_mgr.specs.Stripes.{stripe_of, StripeEntered, StripeSpent}
use Rattle.event_mgr.specs.declared.answers.AskOut.{AskOut}
use Rattle.event_mgr.specs.declared.answers.AskOut.TheVariants as Asks
use Rattle.event_mgr.specs.Manager.{MgrView, IsLawful, OnlyAt, EnteredAt, SpentAt, HasAsked}
use Rattle.fd_wait.specs.Waiting.{HasMade, IsUndecided, AreUndecided, asks, MetSpent, HasAskedOn}
use Rattle.fd_wait.proofs.Made.{made_none, made_one, made_then, spent_made, only_imp, only_then, only_none}

undecided_snoc : (rs : List AskOutcome) (r : AskOutcome) → AreUndecided rs → IsUndecided r
    → AreUndecided (rs ++ r ∷ [])
undecided_snoc [] r all here = (here, tt)
undecided_snoc (x ∷ xs) r all here = (all.0, undecided_snoc xs r all.1 here)

abbrev Nothing : View Entry → Type 0
Nothing y = Unit {0}

-- no ask was made yet
pub asked_none : (key : Key) (v : MgrView) → IsLawful v → HasAskedOn key [] Nothing v v
asked_none key v lawful = record {
  tries = [];
  undecided = tt;
  made =
      only_none (stripe_of key.number) (λ x y. HasMade [] x y × Nothing y) v (λ x. (made_none x, tt))
      (omega (arith, lawful.many));
}

-- one more was, with this answer
asked_more : (key : Key) (r : AskOutcome) (u v w : MgrView) → (a : HasAskedOn key [] Nothing u v)
    → EnteredAt (stripe_of key.number) (Ask key r) v w
    → OnlyAt (stripe_of key.number) (λ x y. HasMade (asks key (a.tries ++ r ∷ [])) x y) u w
asked_more key r u v w a b =
    let s = stripe_of key.number in
    let before : View Entry → View Entry → Type 0 =
    λ x y. HasMade (asks key (a.tries ++ [])) x y × Nothing y in
    only_imp s (λ x z. (y : View Entry) × before x y × StripeEntered s (Ask key r) y z)
    (λ x z. HasMade (asks key (a.tries ++ r ∷ [])) x z) u w
    (λ x z t. subst (λ es. HasMade es x z) (ap (λ rs. asks key rs ++ Ask key r ∷ []) (append-nil a.tries)
    ∙ sym (map-append (λ o. Ask key o) a.tries (r ∷ [])))
    (made_then (asks key (a.tries ++ [])) (Ask key r ∷ []) x t.0 z t.1.0 (made_one s (Ask key r) t.0 z t.2)))
    (only_then s before (StripeEntered s (Ask key r)) u v w a.made b)

-- the answer wasn't the end
pub asked_again : (key : Key) (r : AskOutcome) (u v w : MgrView) → IsUndecided r
    → HasAskedOn key [] Nothing u v → EnteredAt (stripe_of key.number) (Ask key r) v w
    → HasAskedOn key [] Nothing u w
asked_again key r u v w here a b = record {
  tries = a.tries ++ r ∷ [];
  undecided = undecided_snoc a.tries r a.undecided here;
  made =
      only_imp (stripe_of key.number) (λ x y. HasMade (asks key (a.tries ++ r ∷ [])) x y)
      (λ x y. HasMade (asks key ((a.tries ++ r ∷ []) ++ [])) x y × Nothing y) u w
      (λ x y t. (subst (λ rs. HasMade (asks key rs) x y) (sym (append-nil (a.tries ++ r ∷ []))) t, tt))
      (asked_more key r u v w a b);
}

-- the flag waits, or there is none
pub asked_on : (key : Key) (r : AskOut) (u v w : MgrView) → (r ≡ Asks.Waiting) ⊎ (r ≡ Asks.Unknown)
    → HasAskedOn key [] Nothing u v → HasAsked key v r w → HasAskedOn key [] Nothing u w
asked_on key r u v w is a b = ⊎_elim
    (λ e. asked_again key Asked.Waiting u v w tt a (subst (λ (x : AskOut). HasAsked key v x w) e b))
    (λ e. asked_again key Asked.Unknown u v w tt a (subst (λ (x : AskOut). HasAsked key v x w) e b))
    is

-- the answer was the end
pub asked_last : (key : Key) (r : AskOutcome) (u v w : MgrView) → HasAskedOn key [] Nothing u v
    → EnteredAt (stripe_of key.number) (Ask key r) v w → HasAskedOn key (r ∷ []) Nothing u w
asked_last key r u v w a b = record {
  tries = a.tries;
  undecided = a.undecided;
  made =
      only_imp (stripe_of key.number) (λ x y. HasMade (asks key (a.tries ++ r ∷ [])) x y)
      (λ x y. HasMade (asks key (a.tries ++ r ∷ [])) x y × Nothing y) u w (λ x y t. (t, tt))
      (asked_more key r u v w a b);
}

-- the cell was found spent
pub asked_spent : (key : Key) (u v w : MgrView) → HasAskedOn key [] Nothing u v
    → SpentAt (stripe_of key.number) v w → HasAskedOn key [] MetSpent u w
asked_spent key u v w a b =
    let s = stripe_of key.number in
    let before : View Entry → View Entry → Type 0 =
    λ x y. HasMade (asks key (a.tries ++ [])) x y × Nothing y in
    record {
      tries = a.tries;
      undecided = a.undecided;
      made =
          only_imp s (λ x z. (y : View Entry) × before x y × StripeSpent s y z)
          (λ x z. HasMade (asks key (a.tries ++ [])) x z × MetSpent z) u w
          (λ x z t. let k = spent_made s t.0 z t.2 in (
            subst (λ es. HasMade es x z) (append-nil (asks key (a.tries ++ [])))
                (made_then (asks key (a.tries ++ [])) [] x t.0 z t.1.0 k.0),
            k.1,
          ))
          (only_then s before (StripeSpent s) u v w a.made b);
    }
