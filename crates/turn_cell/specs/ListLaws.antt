-- Inner: laws that crates above cite: of sums of weights over lists, of beginnings of lists, and
-- of lists with one place changed.
use Rattle.std.proofs.Common.{◌≡◌, ◌≢◌, ℕ, zero, suc, ◌+◌, ◌*◌, ◌<◌, ◌≤◌, ◌⊎◌, inl, inr, ⊎_elim, List, []}
use Rattle.std.proofs.Common.{◌∷◌, ◌++◌, length, set, refl, sym, ap, ◌∙◌, arith, Some, append-nil}
use Rattle.std.proofs.Common.{append_assoc, length-append}
use Rattle.std.specs.Prelude.{slice_get, ◌==◌}
use Rattle.std.proofs.lemmas.Bool.{eq-eqb, ne_eqb}
use Rattle.std.proofs.lemmas.List.{nil_from_length}
use Rattle.std.proofs.lemmas.Option.{none-some, same_Some}
use mathlib.Core.List.{IsPrefix}
use Rattle.turn_cell.specs.Weights.{weigh, one_if}

-- ---- sums

-- two numbers are one or two
pub same_or : (a b : ℕ) → (a ≡ b) ⊎ (a ≢ b)
same_or zero zero = inl refl
same_or zero (suc b) = inr (λ e. omega arith)
same_or (suc a) zero = inr (λ e. omega arith)
same_or (suc a) (suc b) = ⊎_elim (λ e. inl (ap suc e)) (λ n. inr (λ e. n (omega arith))) (same_or a b)

-- the test of two equal numbers counts 1
pub one_eq : (a b : ℕ) → a ≡ b → one_if (a == b) ≡ 1
one_eq a b e = ap one_if (eq-eqb a b e)

-- the test of two other numbers counts 0
pub one_ne : (a b : ℕ) → a ≢ b → one_if (a == b) ≡ 0
one_ne a b n = ap one_if (ne_eqb a b n)

module _ {A : Type 0} where
  -- two lists together weigh what both weigh
  pub weigh-append : (f : A → ℕ) (xs ys : List A) → weigh f (xs ++ ys) ≡ weigh f xs + weigh f ys
  weigh-append f [] ys = omega arith
  weigh-append f (x ∷ xs) ys = let r = weigh-append f xs ys in omega arith

  -- a list of one item weighs what the item weighs
  pub weigh_one : (f : A → ℕ) (x : A) → weigh f (x ∷ []) ≡ f x
  weigh_one f x = omega arith

  -- where one item was changed, the list weighs the new one for the old one
  pub weigh_set : (f : A → ℕ) (l : List A) (i : ℕ) (a b : A) → slice_get l i ≡ Some b
      → weigh f (set l i a) + f b ≡ weigh f l + f a
  weigh_set f [] i a b e = absurd (none-some b e)
  weigh_set f (x ∷ xs) zero a b e = let s : f x ≡ f b = ap f (same_Some x b e) in omega arith
  weigh_set f (x ∷ xs) (suc i) a b e = let r = weigh_set f xs i a b e in omega arith

  -- two weights that agree on each item agree on a list
  pub weigh_same : (f g : A → ℕ) (xs : List A) → ((x : A) → f x ≡ g x) → weigh f xs ≡ weigh g xs
  weigh_same f g [] e = refl
  weigh_same f g (x ∷ xs) e =
      let r = weigh_same f g xs e in
      let h = e x in omega arith

  -- the sum of two weights weighs the sum
  pub weigh_sum : (f g : A → ℕ) (xs : List A) → weigh (λ x. f x + g x) xs ≡ weigh f xs + weigh g xs
  weigh_sum f g [] = omega arith
  weigh_sum f g (x ∷ xs) = let r = weigh_sum f g xs in omega arith

  -- a weight that is taken n times weighs n times as much
  pub weigh_scaled : (f : A → ℕ) (n : ℕ) (xs : List A) → weigh (λ x. f x * n) xs ≡ weigh f xs * n
  weigh_scaled f n [] = omega arith
  weigh_scaled f n (x ∷ xs) = let r = weigh_scaled f n xs in omega arith

  -- where each item weighs nothing, the list weighs nothing
  pub weigh_none : (xs : List A) → weigh (λ x. 0) xs ≡ 0
  weigh_none [] = refl
  weigh_none (x ∷ xs) = let r = weigh_none xs in omega arith

module _ {A B : Type 0} where
  -- weights that are added up in either order
  pub weigh_swap : (f : A → B → ℕ) (xs : List A) (ys : List B)
      → weigh (λ x. weigh (f x) ys) xs ≡ weigh (λ y. weigh (λ x. f x y) xs) ys
  weigh_swap f [] [] = refl
  weigh_swap f [] (y ∷ ys) = let r = weigh_swap f [] ys in omega arith
  weigh_swap f (x ∷ xs) ys =
      ap (λ n. weigh (f x) ys + n) (weigh_swap f xs ys)
      ∙ sym (weigh_sum (f x) (λ y. weigh (λ z. f z y) xs) ys)

-- ---- beginnings of lists

module _ {D : Type 0} where
  -- a list begins itself
  pub prefix_refl : (xs : List D) → IsPrefix xs xs
  prefix_refl xs = ([], append-nil xs)

  -- a beginning of a beginning is a beginning
  pub prefix_trans : (xs ys zs : List D) → IsPrefix xs ys → IsPrefix ys zs → IsPrefix xs zs
  prefix_trans xs ys zs p q = (p.0 ++ q.0, sym (append_assoc xs p.0 q.0) ∙ (ap (λ l. l ++ q.0) p.1 ∙ q.1))

  -- a beginning is no longer than the list
  pub prefix_length : (xs ys : List D) → IsPrefix xs ys → length xs ≤ length ys
  prefix_length xs ys p = omega (arith, length-append xs p.0, ap length p.1)

  -- a beginning that is no shorter is the whole
  pub prefix_whole : (xs ys : List D) → IsPrefix xs ys → length ys ≤ length xs → xs ≡ ys
  prefix_whole xs ys p le =
      let n : length p.0 ≡ 0 = omega (arith, length-append xs p.0, ap length p.1, le) in
      sym (append-nil xs) ∙ (ap (λ l. xs ++ l) (sym (nil_from_length p.0 n)) ∙ p.1)

  -- what goes on in one piece begins so
  pub begins_one : (xs zs ws : List D) → ws ≡ xs ++ zs → IsPrefix xs ws
  begins_one xs zs ws e = (zs, sym e)

  -- and what goes on in two pieces
  pub begins_two : (xs ys zs ws : List D) → ws ≡ (xs ++ ys) ++ zs → IsPrefix xs ws
  begins_two xs ys zs ws e = (ys ++ zs, sym (append_assoc xs ys zs) ∙ sym e)

-- ---- places of lists

module _ {A : Type 0} where
  -- what stands in a list after a place was changed
  pub get_set : (l : List A) (i j : ℕ) (a b : A) → slice_get (set l i a) j ≡ Some b
      → ((j ≡ i) × (a ≡ b)) ⊎ ((j ≢ i) × (slice_get l j ≡ Some b))
  get_set [] i j a b e = absurd (none-some b e)
  get_set (x ∷ xs) zero zero a b e = inl (refl, same_Some a b e)
  get_set (x ∷ xs) zero (suc j) a b e = inr ((λ h. omega arith), e)
  get_set (x ∷ xs) (suc i) zero a b e = inr ((λ h. omega arith), e)
  get_set (x ∷ xs) (suc i) (suc j) a b e =
      ⊎_elim (λ t. inl (ap suc t.0, t.1)) (λ t. let n =
      t.0 in inr ((λ h. n (omega arith)), t.1)) (get_set xs i j a b e)

  -- a place that isn't changed
  pub get_else : (l : List A) (i j : ℕ) (a : A) → j ≢ i → slice_get (set l i a) j ≡ slice_get l j
  get_else [] i j a n = refl
  get_else (x ∷ xs) zero zero a n = absurd (n refl)
  get_else (x ∷ xs) zero (suc j) a n = refl
  get_else (x ∷ xs) (suc i) zero a n = refl
  get_else (x ∷ xs) (suc i) (suc j) a n = get_else xs i j a (λ e. n (ap suc e))

  -- the place that is changed
  pub get_here : (l : List A) (i : ℕ) (a b : A) → slice_get l i ≡ Some b → slice_get (set l i a) i ≡ Some a
  get_here [] i a b e = absurd (none-some b e)
  get_here (x ∷ xs) zero a b e = refl
  get_here (x ∷ xs) (suc i) a b e = get_here xs i a b e

  -- a place within a list has an item
  pub some_at : (l : List A) (i : ℕ) → i < length l → (x : A) × (slice_get l i ≡ Some x)
  some_at [] i lt = absurd (omega arith)
  some_at (x ∷ xs) zero lt = (x, refl)
  some_at (x ∷ xs) (suc i) lt = some_at xs i (omega arith)
