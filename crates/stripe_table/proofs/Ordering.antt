-- Lists of keys that grow at their end, and lists that lose some.
use Rattle.std.proofs.Common.{◌≡◌, ℕ, ◌<◌, ⊎_elim, List, [], ◌∷◌, ◌++◌, map, false, Bool, sym, refl, ap, ◌∙◌}
use Rattle.std.proofs.Common.{subst, arith}
use Rattle.std.specs.Prelude.{filter, ◌||◌, ◌==◌}
use Rattle.std.specs.List.{list_any}
use Rattle.std.proofs.lemmas.Bool.{or_parts, cond-true, cond-false, eq-eqb, ne_eqb}
use Rattle.reg_keys.specs.Tests.{IsIn}
use Rattle.stripe_table.specs.Ascending.{AllAbove, Ascends, AllBelow}
use Rattle.reg_keys.specs.ListLaws.{split_filter}
use Rattle.stripe_table.proofs.Lists.{none_above}

module _ {A : Type 0} (number : A → ℕ) where
  abbrev has : ℕ → A → Bool
  has k x = number x == k

  above_last : (n : ℕ) (xs : List A) (x : A) → AllAbove number n xs → n < number x
      → AllAbove number n (xs ++ x ∷ [])
  above_last n [] x a lt = (lt, tt)
  above_last n (y ∷ ys) x a lt = (a.0, above_last n ys x a.1 lt)

  pub ascends_last : (xs : List A) (x : A) → Ascends number xs → AllBelow number (number x) xs
      → Ascends number (xs ++ x ∷ [])
  ascends_last [] x a b = (tt, tt)
  ascends_last (y ∷ ys) x a b = (above_last (number y) ys x a.0 b.0, ascends_last ys x a.1 b.1)

  pub below_last : (n : ℕ) (xs : List A) (x : A) → AllBelow number n xs → number x < n
      → AllBelow number n (xs ++ x ∷ [])
  below_last n [] x a lt = (lt, tt)
  below_last n (y ∷ ys) x a lt = (a.0, below_last n ys x a.1 lt)

  pub below_in : (n : ℕ) (xs : List A) (x : A) → AllBelow number n xs → IsIn x xs → number x < n
  below_in n [] x a i = absurd i
  below_in n (y ∷ ys) x a i =
      ⊎_elim (λ (e : x ≡ y). subst (λ (z : A). number z < n) (sym e) a.0) (λ j. below_in n ys x a.1 j) i

  pub above_in : (n : ℕ) (xs : List A) (x : A) → AllAbove number n xs → IsIn x xs → n < number x
  above_in n [] x a i = absurd i
  above_in n (y ∷ ys) x a i =
      ⊎_elim (λ (e : x ≡ y). subst (λ (z : A). n < number z) (sym e) a.0) (λ j. above_in n ys x a.1 j) i

  -- no element has a number that is still to come
  pub none_new : (n : ℕ) (xs : List A) → AllBelow number n xs → list_any (has n) xs ≡ false
  none_new n [] a = refl
  none_new n (x ∷ xs) a =
      let lt = a.0 in
      ap (λ b. b || list_any (has n) xs) (ne_eqb (number x) n (λ e. omega arith)) ∙ none_new n xs a.1

  module _ (p : A → Bool) where
    above_left : (n : ℕ) (xs : List A) → AllAbove number n xs → AllAbove number n (filter p xs)
    above_left n [] a = tt
    above_left n (x ∷ xs) a =
        split_filter p x xs (AllAbove number n) (λ _. (a.0, above_left n xs a.1)) (λ _. above_left n xs a.1)

    pub ascends_left : (xs : List A) → Ascends number xs → Ascends number (filter p xs)
    ascends_left [] a = tt
    ascends_left (x ∷ xs) a =
        split_filter p x xs (Ascends number) (λ _. (above_left (number x) xs a.0, ascends_left xs a.1))
        (λ _. ascends_left xs a.1)

    pub below_left : (n : ℕ) (xs : List A) → AllBelow number n xs → AllBelow number n (filter p xs)
    below_left n [] a = tt
    below_left n (x ∷ xs) a =
        split_filter p x xs (AllBelow number n) (λ _. (a.0, below_left n xs a.1)) (λ _. below_left n xs a.1)

  pub below_changed : (h : A → A) → ((x : A) → number (h x) ≡ number x) → (n : ℕ) (xs : List A)
      → AllBelow number n xs → AllBelow number n (map h xs)
  below_changed h same n [] a = tt
  below_changed h same n (x ∷ xs) a =
      let lt = a.0 in
      let is = same x in
      (omega arith, below_changed h same n xs a.1)

  -- two elements of one number are one
  pub one_number : (xs : List A) (x y : A) → Ascends number xs → IsIn x xs → IsIn y xs
      → number x ≡ number y → x ≡ y
  one_number [] x y a i j e = absurd i
  one_number (z ∷ zs) x y a i j e = ⊎_elim
      (λ (p : x ≡ z). ⊎_elim (λ (q : y ≡ z). p ∙ sym q) (λ t.
      let lt = above_in (number z) zs y a.0 t in
      let is = ap number p in
      absurd (omega arith)) j)
      (λ s. ⊎_elim (λ (q : y ≡ z).
      let lt = above_in (number z) zs x a.0 s in
      let is = ap number q in
      absurd (omega arith)) (λ t. one_number zs x y a.1 s t e) j)
      i

  pub in_one : (k : ℕ) (xs : List A) (x : A) → Ascends number xs → IsIn x xs → number x ≡ k
      → filter (has k) xs ≡ x ∷ []
  in_one k [] x a i is = absurd i
  in_one k (y ∷ ys) x a i is = ⊎_elim
      (λ (p : x ≡ y). let here : number y ≡ k = ap number (sym p) ∙ is in
      cond-true (has k y) (y ∷ filter (has k) ys) (filter (has k) ys) (eq-eqb (number y) k here)
      ∙ (ap (λ (z : A). z ∷ filter (has k) ys) (sym p)
      ∙ ap (λ l. x ∷ l) (none_left ys (none_above number (number y) k (omega arith) ys a.0))))
      (λ t. let lt = above_in (number y) ys x a.0 t in cond-false (has k y) (y ∷ filter (has k) ys)
      (filter (has k) ys) (ne_eqb (number y) k (λ e. omega arith)) ∙ in_one k ys x a.1 t is) i
    where
      none_left : (l : List A) → list_any (has k) l ≡ false → filter (has k) l ≡ []
      none_left [] e = refl
      none_left (z ∷ zs) e =
          let b = or_parts (has k z) (list_any (has k) zs) e in
          cond-false (has k z) (z ∷ filter (has k) zs) (filter (has k) zs) b.0 ∙ none_left zs b.1
