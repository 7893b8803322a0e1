-- Rows in which one place was changed.
use Rattle.std.proofs.Common.{◌≡◌, ℕ, zero, suc, ◌≢◌, ◌⊎◌, inl, inr, ⊎_elim, List, [], ◌∷◌, ◌++◌, map, length}
use Rattle.std.proofs.Common.{set, sym, refl, ap, ◌∙◌, subst, arith}
use Rattle.std.specs.Prelude.{Some, slice_get}
use Rattle.std.specs.Option.{option_map}
use Rattle.std.proofs.lemmas.Option.{slice_get-map, same_Some, none-some}
use Rattle.std.proofs.lemmas.List.{map-set}
use Rattle.turn_cell.specs.ListLaws.{get_set}
use Rattle.event_mgr.specs.Rows.{At}

module _ {A : Type 0} where
  -- what stands in a row with one more after it
  pub get_snoc : (l : List A) (j : ℕ) (a b : A) → slice_get (l ++ a ∷ []) j ≡ Some b
      → (slice_get l j ≡ Some b) ⊎ ((j ≡ length l) × (a ≡ b))
  get_snoc [] zero a b e = inr (refl, same_Some a b e)
  get_snoc [] (suc j) a b e = absurd (none-some b e)
  get_snoc (x ∷ xs) zero a b e = inl e
  get_snoc (x ∷ xs) (suc j) a b e =
      ⊎_elim (λ h. inl h) (λ h. inr (ap suc h.0 ∙ omega arith, h.1)) (get_snoc xs j a b e)

  -- a fact of what stands at each place, after one place was changed
  pub each_set : (K : ℕ → A → Type 0) (l : List A) (i : ℕ) (a : A) → K i a
      → ((j : ℕ) (b : A) → slice_get l j ≡ Some b → K j b) → (j : ℕ) (b : A)
      → slice_get (set l i a) j ≡ Some b → K j b
  each_set K l i a here each j b e =
      ⊎_elim (λ (t : (j ≡ i) × (a ≡ b)). subst (λ (x : ℕ × A). K x.0 x.1) (λ k. (sym t.0 k, t.1 k)) here)
      (λ (t : (j ≢ i) × (slice_get l j ≡ Some b)). each j b t.1) (get_set l i j a b e)

  -- the same with one more after the row
  pub each_snoc : (K : ℕ → A → Type 0) (l : List A) (a : A) → K (length l) a
      → ((j : ℕ) (b : A) → slice_get l j ≡ Some b → K j b) → (j : ℕ) (b : A)
      → slice_get (l ++ a ∷ []) j ≡ Some b → K j b
  each_snoc K l a here each j b e =
      ⊎_elim (λ (t : slice_get l j ≡ Some b). each j b t)
      (λ (t : (j ≡ length l) × (a ≡ b)). subst (λ (x : ℕ × A). K x.0 x.1) (λ k. (sym t.0 k, t.1 k)) here)
      (get_snoc l j a b e)

  -- from a row to what is read of it
  pub at_map : {B : Type 0} (f : A → B) (R : B → B → Type 0) (xs : List A) (i : ℕ) (y z : A)
      → slice_get xs i ≡ Some y → R (f y) (f z) → At i R (map f xs) (map f (set xs i z))
  at_map f R xs i y z e r = record {
    before = f y;
    after = f z;
    there = slice_get-map f xs i ∙ ap (option_map f) e;
    others = map-set f xs i z;
    moved = r;
  }

  pub at_there : (i : ℕ) (R S : A → A → Type 0) (vs ws : List A)
      → ((v w : A) → slice_get vs i ≡ Some v → R v w → S v w) → At i R vs ws → At i S vs ws
  at_there i R S vs ws f a = record {
    before = a.before;
    after = a.after;
    there = a.there;
    others = a.others;
    moved = f a.before a.after a.there a.moved;
  }

  pub at_imp : (i : ℕ) (R S : A → A → Type 0) (vs ws : List A) → ((v w : A) → R v w → S v w)
      → At i R vs ws → At i S vs ws
  at_imp i R S vs ws f a = record {
    before = a.before;
    after = a.after;
    there = a.there;
    others = a.others;
    moved = f a.before a.after a.moved;
  }

module _ {A : Type 0} where
  -- what stands in front of more
  pub get_before : (l m : List A) (j : ℕ) (a : A) → slice_get l j ≡ Some a → slice_get (l ++ m) j ≡ Some a
  get_before [] m j a e = absurd (none-some a e)
  get_before (x ∷ xs) m zero a e = e
  get_before (x ∷ xs) m (suc j) a e = get_before xs m j a e

  -- what stands after others
  pub get_behind : (l m : List A) (a : A) → slice_get (l ++ a ∷ m) (length l) ≡ Some a
  get_behind [] m a = refl
  get_behind (x ∷ xs) m a = get_behind xs m a

  -- what stands in a row of what is read of another
  pub map_at : {B : Type 0} (f : A → B) (l : List A) (i : ℕ) (b : B) → slice_get (map f l) i ≡ Some b
      → (a : A) × (slice_get l i ≡ Some a) × (f a ≡ b)
  map_at f [] i b e = absurd (none-some b e)
  map_at f (x ∷ xs) zero b e = (x, refl, same_Some (f x) b e)
  map_at f (x ∷ xs) (suc i) b e = map_at f xs i b e
