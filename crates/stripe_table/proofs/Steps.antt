-- What a call of a stripe leads to.
use Rattle.std.proofs.Common.{◌≡◌, ℕ, zero, suc, ◌+◌, ◌*◌, ◌/◌, ◌%◌, ◌≤◌, ◌<◌, ◌≢◌, List, [], ◌∷◌, length}
use Rattle.std.proofs.Common.{set, true, false, Bool, sym, refl, ap, ◌∙◌, subst, get_or, arith}
use Rattle.std.specs.Prelude.{Option, Some, None, if◌then◌else◌, slice_get}
use Rattle.std.proofs.lemmas.Bool.{both_ways, false_from_ne_true, cond-true, cond-false, le-leb, lt-leb}
use Rattle.std.proofs.lemmas.Option.{same_Some, none-some, slice_get_within, slice_get_read}
use Rattle.reg_keys.specs.declared.limits.TheConstants.{LAST_COUNT}
use Rattle.reg_keys.specs.declared.opening.Opening.{Opening}
use Rattle.reg_keys.specs.declared.entry.Entry.{Entry}
use Rattle.reg_keys.specs.Tests.{same}
use Rattle.reg_keys.specs.Histories.{count_after, owner_of, is_it, is_live}
use Rattle.reg_keys.specs.Replies.{is_spent, reply_of}
use Rattle.reg_keys.specs.ListLaws.{same_self, same_is}
use Rattle.stripe_table.specs.Facts.{Facts, facts_of}
use Rattle.stripe_table.specs.Represents.{opening, FitsOpen, Shows, ShowsPast, Step}
use Rattle.stripe_table.specs.declared.descriptor.OpenDescriptor.{OpenDescriptor}
use Rattle.stripe_table.specs.declared.stripe.Stripe.{Stripe}

-- the choice of a test that is known
pub picked : {A : Type 0} (b : Bool) (x y : A) → b ≡ true → x ≡ (if b then x else y)
picked b x y e = sym (cond-true b x y e)

pub passed : {A : Type 0} (b : Bool) (x y : A) → b ≡ false → y ≡ (if b then x else y)
passed b x y e = sym (cond-false b x y e)

-- a place at which nothing is has no element
pub within : {A : Type 0} (xs : List A) (i : ℕ) → i < length xs → (x : A) × (slice_get xs i ≡ Some x)
within [] i lt = absurd (omega arith)
within (x ∷ xs) zero lt = (x, refl)
within (x ∷ xs) (suc i) lt = within xs i (omega arith)

module _ {T : Type 0} (tag : T → List (List ℕ)) (past : List Entry) (st : Stripe T)
    (r : ShowsPast tag past st) where
  -- a call that is refused changes nothing
  pub unchanged : (e : Entry) → e ≡ reply_of st.stripe st.first past e
      → facts_of st.stripe st.first (e ∷ past) ≡ facts_of st.stripe st.first past → Step tag past e st st
  unchanged e right same =
      record { name = (refl, refl); right = right; fits = subst (λ (f : Facts). Shows tag f st) (sym same) r }

  -- a call that is granted leads to these facts
  pub stepped : (new : Stripe T) (e : Entry) (g : Facts) → e ≡ reply_of st.stripe st.first past e
      → new.stripe ≡ st.stripe → new.first ≡ st.first → facts_of st.stripe st.first (e ∷ past) ≡ g
      → Shows tag g new → Step tag past e st new
  stepped new e g right stripe first same shows = record {
    name = (stripe, first);
    right = right;
    fits =
        subst (λ (x : ℕ × ℕ). Shows tag (facts_of x.0 x.1 (e ∷ past)) new) (λ i. (sym stripe i, sym first i))
        (subst (λ (f : Facts). Shows tag f new) (sym same) shows);
  }

  pub spent : LAST_COUNT ≤ st.count → is_spent st.first past ≡ true
  spent le = let c = r.count in le-leb LAST_COUNT (count_after st.first past) (omega arith)

  pub not_spent : st.count < LAST_COUNT → is_spent st.first past ≡ false
  not_spent lt = let c = r.count in lt-leb LAST_COUNT (count_after st.first past) (omega arith)

  module _ (o : Opening) where
    pub live : (d : OpenDescriptor T) → FitsOpen tag (facts_of st.stripe st.first past) o d
        → is_live past o ≡ true
    live d fit = ap (is_it o) fit.owner ∙ same_self o

    owned : is_live past o ≡ true → owner_of past o.fd ≡ Some o
    owned e = by_owner (owner_of past o.fd) e
      where
        by_owner : (w : Option Opening) → is_it o w ≡ true → w ≡ Some o
        by_owner None e = absurd (both_ways false refl e)
        by_owner (Some p) e = ap Some (sym (same_is o p e))

    -- an opening that isn't found isn't live
    pub dead : o.fd % 32 ≡ st.stripe
        → ((d : OpenDescriptor T)
        → slice_get st.descriptors.items (o.fd / 32) ≡ Some (Some d) → d.number ≢ o.number)
        → is_live past o ≡ false
    dead of absent =
        false_from_ne_true (is_live past o) (λ e.
        let own = owned e in
        let w = r.ordered.within o.fd o own in
        let fd_low = w.1 in
        let many = r.table.many in
        let x = within st.descriptors.items (o.fd / 32) (omega arith) in by_kept x.0 x.1 own)
      where
        place_is : o.fd ≡ 32 * (o.fd / 32) + st.stripe
        place_is = omega arith

        by_kept : (x : Option (OpenDescriptor T)) → slice_get st.descriptors.items (o.fd / 32) ≡ Some x
            → owner_of past o.fd ≡ Some o → ⊥
        by_kept None at own =
            let fit = r.table.each (o.fd / 32) None at in
            none-some o (sym (subst (λ (n : ℕ). owner_of past n ≡ None) (sym place_is) fit.owner) ∙ own)
        by_kept (Some d) at own = let fit = r.table.each (o.fd / 32) (Some d) at in
            absent d at (ap (λ (p : Opening). p.number) (same_Some _ o (sym
            (subst (λ (n : ℕ). owner_of past n ≡ Some (opening d.number n)) (sym place_is) fit.owner) ∙ own)))

    -- the descriptor of a live opening, at its place
    pub place_is : (place : ℕ) → o.fd % 32 ≡ st.stripe → place ≡ o.fd / 32 → o.fd ≡ 32 * place + st.stripe
    place_is place of is = omega arith

-- what is read at a place of a table is what is there
pub read_is : {A : Type 0} (xs : List (Option A)) (i : ℕ) (x : A) (y : Option A)
    → slice_get xs i ≡ Some (Some x) → y ≡ get_or xs i y → y ≡ Some x
read_is xs i x y at is =
    let lt = slice_get_within xs i (Some x) at in
    same_Some y (Some x) (sym (slice_get_read xs _ i y refl lt is) ∙ at)

pub there_after : {A : Type 0} (xs : List A) (i : ℕ) (x y : A) → slice_get xs i ≡ Some x
    → slice_get (set xs i y) i ≡ Some y
there_after [] i x y at = absurd (none-some x at)
there_after (z ∷ zs) zero x y at = refl
there_after (z ∷ zs) (suc i) x y at = there_after zs i x y at
