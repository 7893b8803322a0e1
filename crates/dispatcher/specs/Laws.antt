-- Inner: laws that crates above cite: passes grow from call to call.
use Rattle.std.proofs.Common.{◌≡◌, ℕ, zero, suc, List, [], ◌∷◌, set, true, sym, refl, ◌∙◌, subst}
use Rattle.std.specs.Prelude.{slice_get, Some}
use mathlib.Core.List.{IsPrefix}
use Rattle.std.proofs.lemmas.Option.{none-some, same_Some}
use Rattle.reg_keys.specs.declared.entry.Entry.{Entry}
use Rattle.turn_cell.specs.declared.view.View.{View}
use Rattle.turn_cell.specs.History.{Log, entries_in}
use Rattle.turn_cell.specs.View.{own_entries, seat_of}
use Rattle.event_mgr.specs.Stripes.{StripeEntered, StripeSpent}
use Rattle.event_mgr.specs.Manager.{MgrView, OnlyAt, EnteredAt, SpentAt}
use Rattle.dispatcher.specs.Stripes.{Each, HasGrown, AllGrown}
use Rattle.dispatcher.specs.Runs.{RunsAt, RunMade}
use Rattle.dispatcher.specs.declared.runner.AfterRun.{AfterRun}
use Rattle.turn_cell.specs.ListLaws.{prefix_refl, prefix_trans, begins_two, begins_one}

module _ {E : Type 0} where
  -- a pass has grown from itself
  pub grown_same : (v : View E) → HasGrown v v
  grown_same v = record {
    name = refl;
    classes = refl;
    seen = prefix_refl v.seen;
    own = prefix_refl (own_entries v);
    met = λ m. m;
  }

  -- what has grown twice has grown
  pub grown_then : (u v w : View E) → HasGrown u v → HasGrown v w → HasGrown u w
  grown_then u v w p q = record {
    name = q.name ∙ p.name;
    classes = q.classes ∙ p.classes;
    seen = prefix_trans u.seen v.seen w.seen p.seen q.seen;
    own = prefix_trans (own_entries u) (own_entries v) (own_entries w) p.own q.own;
    met = λ m. q.met (p.met m);
  }

  -- a pass that knows the same, but for what met a spent count, has grown
  pub grown_as : (v w : View E) → w.name ≡ v.name → w.seen ≡ v.seen → w.classes ≡ v.classes
      → (v.met_spent ≡ true → w.met_spent ≡ true) → HasGrown v w
  grown_as v w name seen classes met =
      let own : own_entries w ≡ own_entries v = λ i. entries_in (classes i) (seen i) in
      record {
        name = name;
        classes = classes;
        seen = subst (λ (l : Log E). IsPrefix v.seen l) (sym seen) (prefix_refl v.seen);
        own = subst (λ (l : Log E). IsPrefix (own_entries v) l) (sym own) (prefix_refl (own_entries v));
        met = met;
      }

module _ {V : Type 0} (R : V → V → Type 0) (same : (v : V) → R v v) where
  -- each is related to itself
  pub each_same : (vs : List V) → Each R vs vs
  each_same [] = tt
  each_same (v ∷ vs) = (same v, each_same vs)

  -- where one was changed, each is related to what it was
  pub each_set : (vs : List V) (i : ℕ) (a b : V) → slice_get vs i ≡ Some a → R a b → Each R vs (set vs i b)
  each_set [] i a b e r = absurd (none-some a e)
  each_set (v ∷ vs) zero a b e r = (subst (λ (z : V). R z b) (sym (same_Some v a e)) r, each_same vs)
  each_set (v ∷ vs) (suc i) a b e r = (same v, each_set vs i a b e r)

module _ {V : Type 0} where
  -- and so over two steps
  pub each_then : (R : V → V → Type 0) → ((u v w : V) → R u v → R v w → R u w) → (us vs ws : List V)
      → Each R us vs → Each R vs ws → Each R us ws
  each_then R on [] [] [] a b = tt
  each_then R on [] [] (w ∷ ws) a b = absurd b
  each_then R on [] (v ∷ vs) ws a b = absurd a
  each_then R on (u ∷ us) [] ws a b = absurd a
  each_then R on (u ∷ us) (v ∷ vs) [] a b = absurd b
  each_then R on (u ∷ us) (v ∷ vs) (w ∷ ws) a b = (on u v w a.0 b.0, each_then R on us vs ws a.1 b.1)

  -- a relation that follows from another does so for each
  pub each_of : (R S : V → V → Type 0) → ((v w : V) → R v w → S v w) → (vs ws : List V)
      → Each R vs ws → Each S vs ws
  each_of R S of [] [] a = tt
  each_of R S of [] (w ∷ ws) a = absurd a
  each_of R S of (v ∷ vs) [] a = absurd a
  each_of R S of (v ∷ vs) (w ∷ ws) a = (of v w a.0, each_of R S of vs ws a.1)

-- a manager that is as it was has grown
pub all_grown_same : (v : MgrView) → AllGrown v v
all_grown_same v =
    record { stripes = each_same HasGrown grown_same v.stripes; numbers = grown_same v.numbers }

-- a manager that has grown twice has grown
pub all_grown_then : (u v w : MgrView) → AllGrown u v → AllGrown v w → AllGrown u w
all_grown_then u v w p q = record {
  stripes = each_then HasGrown grown_then u.stripes v.stripes w.stripes p.stripes q.stripes;
  numbers = grown_then u.numbers v.numbers w.numbers p.numbers q.numbers;
}

only_at_grown : (s : ℕ) (R : View Entry → View Entry → Type 0) → ((x y : View Entry) → R x y → HasGrown x y)
    → (v w : MgrView) → OnlyAt s R v w → AllGrown v w
only_at_grown s R of v w a = record {
  stripes =
      subst (λ (l : List (View Entry)). Each HasGrown v.stripes l) (sym a.stripe.others)
      (each_set HasGrown grown_same v.stripes s a.stripe.before a.stripe.after a.stripe.there
      (of a.stripe.before a.stripe.after a.stripe.moved));
  numbers = subst (λ z. HasGrown v.numbers z) (sym a.numbers) (grown_same v.numbers);
}

-- a stripe that an entry was made in has grown
pub entered_stripe : (s : ℕ) (e : Entry) (x y : View Entry) → StripeEntered s e x y → HasGrown x y
entered_stripe s e x y k = record {
  name = k.name;
  classes = k.classes;
  seen = begins_two x.seen k.between ((seat_of x, e) ∷ []) y.seen k.seen;
  own = begins_one (own_entries x) ((seat_of x, e) ∷ []) (own_entries y) k.own;
  met = λ m. k.met_spent ∙ m;
}

-- a manager that an entry was made in has grown
pub entered_grown : (s : ℕ) (e : Entry) (v w : MgrView) → EnteredAt s e v w → AllGrown v w
entered_grown s e v w a = only_at_grown s (StripeEntered s e) (entered_stripe s e) v w a

-- a manager that refused a call as spent has grown
pub spent_grown : (s : ℕ) (v w : MgrView) → SpentAt s v w → AllGrown v w
spent_grown s v w a =
    only_at_grown s (StripeSpent s)
    (λ x y k. grown_as x y k.unmoved.name k.unmoved.seen k.unmoved.classes (λ _. k.met_spent)) v w a

-- a manager that a run used has grown
pub run_grown : (v : MgrView) (r : AfterRun) (w : MgrView) → RunMade v r w → AllGrown v w
run_grown v r w k = record {
  stripes = each_of RunsAt HasGrown (λ x y h. h.grown) v.stripes w.stripes k.stripes;
  numbers = k.numbers;
}
