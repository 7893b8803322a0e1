-- Lists, tests and places.
use Rattle.std.proofs.Common.{◌≡◌, ℕ, zero, suc, ◌≤◌, ◌<◌, ◌≢◌, ◌⊎◌, inl, inr, ⊎_elim, List, [], ◌∷◌, map}
use Rattle.std.proofs.Common.{length, set, take, true, false, Bool, sym, refl, ap, ◌∙◌, subst, arith}
use Rattle.std.specs.Prelude.{Some, filter, not, ◌||◌, ◌==◌, slice_get, remove}
use Rattle.std.specs.List.{list_any}
use Rattle.std.proofs.lemmas.Bool.{or_left, or_right, or_parts, eq-eqb, ne_eqb, not-false, cond-true}
use Rattle.std.proofs.lemmas.Bool.{cond-false}
use Rattle.std.proofs.lemmas.Option.{same_Some, none-some}
use Rattle.std.proofs.Math.Nat.{eq-or-lt_of_le}
use Rattle.stripe_table.specs.Ascending.{AllAbove, Ascends}

le_cases : (i j : ℕ) → i ≤ j → (i < j) ⊎ (i ≡ j)
le_cases i j le = ⊎_elim inr inl (eq-or-lt_of_le {n = i} {m = j} le)

module _ {A : Type 0} (f : A → Bool) where
  -- an element at a place passes the test, so some element does
  pub any_at : (xs : List A) (i : ℕ) (x : A) → slice_get xs i ≡ Some x → f x ≡ true → list_any f xs ≡ true
  any_at [] i x at e = absurd (none-some x at)
  any_at (y ∷ ys) zero x at e = or_left (f y) (list_any f ys) (ap f (same_Some y x at) ∙ e)
  any_at (y ∷ ys) (suc i) x at e = or_right (f y) (list_any f ys) (any_at ys i x at e)

-- what no element passes in all of a list, none passes at a place
pub none_taken : {A : Type 0} (f : A → Bool) (xs : List A) (n i : ℕ) (x : A) → length xs ≤ n
    → list_any f (take n xs) ≡ false → slice_get xs i ≡ Some x → f x ≡ false
none_taken f [] n i x le e at = absurd (none-some x at)
none_taken f (y ∷ ys) zero i x le e at = absurd (omega arith)
none_taken f (y ∷ ys) (suc n) zero x le e at =
    ap f (sym (same_Some y x at)) ∙ (or_parts (f y) (list_any f (take n ys)) e).0
none_taken f (y ∷ ys) (suc n) (suc i) x le e at =
    none_taken f ys n i x (omega arith) (or_parts (f y) (list_any f (take n ys)) e).1 at

-- where none passed before a place, and what is there doesn't, none passes up to behind it
pub none_more : {A : Type 0} (f : A → Bool) (xs : List A) (i j : ℕ) (x : A) → j ≡ suc i
    → slice_get xs i ≡ Some x → list_any f (take i xs) ≡ false → f x ≡ false → list_any f (take j xs) ≡ false
none_more f xs i j x is at none off =
    subst (λ (n : ℕ). list_any f (take n xs) ≡ false) (sym is) (go xs i at none)
  where
    go : (xs : List _) (i : ℕ) → slice_get xs i ≡ Some x → list_any f (take i xs) ≡ false
        → list_any f (take (suc i) xs) ≡ false
    go [] i at none = absurd (none-some x at)
    go (y ∷ ys) zero at none = ap (λ b. b || false) (ap f (same_Some y x at) ∙ off)
    go (y ∷ ys) (suc i) at none =
        let a = or_parts (f y) (list_any f (take i ys)) none in
        ap (λ b. b || list_any f (take (suc i) ys)) a.0 ∙ go ys i at a.1

-- ---- filters

module _ {A : Type 0} (f : A → Bool) where
  pub none_passes : (xs : List A) → list_any f xs ≡ false → filter f xs ≡ []
  none_passes [] e = refl
  none_passes (x ∷ xs) e =
      let a = or_parts (f x) (list_any f xs) e in
      cond-false (f x) _ _ a.0 ∙ none_passes xs a.1

  pub all_kept : (xs : List A) → list_any f xs ≡ false → filter (λ x. not (f x)) xs ≡ xs
  all_kept [] e = refl
  all_kept (x ∷ xs) e =
      let a = or_parts (f x) (list_any f xs) e in
      cond-true (not (f x)) (x ∷ filter (λ x. not (f x)) xs) (filter (λ x. not (f x)) xs) (ap not a.0)
      ∙ ap (λ l. x ∷ l) (all_kept xs a.1)

  pub all_pass : (xs : List A) → list_any (λ x. not (f x)) xs ≡ false → filter f xs ≡ xs
  all_pass [] e = refl
  all_pass (x ∷ xs) e =
      let a = or_parts (not (f x)) (list_any (λ x. not (f x)) xs) e in
      cond-true (f x) (x ∷ filter f xs) (filter f xs) (not-false (f x) a.0)
      ∙ ap (λ l. x ∷ l) (all_pass xs a.1)

  -- a change of the elements that pass the test leaves the others
  pub none_changed : (h : A → A) → ((x : A) → f x ≡ false → h x ≡ x) → (xs : List A)
      → list_any f xs ≡ false → map h xs ≡ xs
  none_changed h same [] e = refl
  none_changed h same (x ∷ xs) e =
      let a = or_parts (f x) (list_any f xs) e in
      λ i. same x a.0 i ∷ none_changed h same xs a.1 i

-- ---- lists whose numbers ascend

module _ {A : Type 0} (number : A → ℕ) where
  abbrev has : ℕ → A → Bool
  has k x = number x == k

  pub above_at : (n : ℕ) (xs : List A) (i : ℕ) (x : A) → AllAbove number n xs
      → slice_get xs i ≡ Some x → n < number x
  above_at n [] i x a at = absurd (none-some x at)
  above_at n (y ∷ ys) zero x a at = subst (λ (z : A). n < number z) (same_Some y x at) a.0
  above_at n (y ∷ ys) (suc i) x a at = above_at n ys i x a.1 at

  pub before : (xs : List A) (i j : ℕ) (x y : A) → Ascends number xs → slice_get xs i ≡ Some x
      → slice_get xs j ≡ Some y → i < j → number x < number y
  before [] i j x y a at_x at_y le = absurd (none-some x at_x)
  before (z ∷ zs) i zero x y a at_x at_y le = absurd (omega arith)
  before (z ∷ zs) zero (suc j) x y a at_x at_y le =
      subst (λ (w : A). number w < number y) (same_Some z x at_x) (above_at (number z) zs j y a.0 at_y)
  before (z ∷ zs) (suc i) (suc j) x y a at_x at_y le = before zs i j x y a.1 at_x at_y (omega arith)

  pub none_above : (n k : ℕ) → k ≤ n → (xs : List A) → AllAbove number n xs → list_any (has k) xs ≡ false
  none_above n k le [] a = refl
  none_above n k le (x ∷ xs) a =
      let above = a.0 in
      let off : has k x ≡ false = ne_eqb (number x) k (λ e. omega arith) in
      ap (λ b. b || list_any (has k) xs) off ∙ none_above n k le xs a.1

  pub none_at : (k : ℕ) (xs : List A) → ((i : ℕ) (x : A) → slice_get xs i ≡ Some x → number x ≢ k)
      → list_any (has k) xs ≡ false
  none_at k [] h = refl
  none_at k (x ∷ xs) h =
      ap (λ b. b || list_any (has k) xs) (ne_eqb (number x) k (h 0 x refl))
      ∙ none_at k xs (λ i y at. h (suc i) y at)

  module _ (k : ℕ) where
    -- the one element with a number is all that passes the test for it
    pub at_filter : (xs : List A) (i : ℕ) (x : A) → Ascends number xs → slice_get xs i ≡ Some x
        → number x ≡ k → filter (has k) xs ≡ x ∷ []
    at_filter [] i x a at is = absurd (none-some x at)
    at_filter (y ∷ ys) zero x a at is =
        let same = same_Some y x at in
        let here : number y ≡ k = ap number same ∙ is in
        cond-true (has k y) _ _ (eq-eqb (number y) k here)
        ∙ (λ j. same j ∷ none_passes (has k) ys (none_above (number y) k (omega arith) ys a.0) j)
    at_filter (y ∷ ys) (suc i) x a at is =
        let above = above_at (number y) ys i x a.0 at in
        cond-false (has k y) _ _ (ne_eqb (number y) k (λ e. omega arith)) ∙ at_filter ys i x a.1 at is

    pub at_remove : (xs : List A) (i : ℕ) (x : A) → Ascends number xs → slice_get xs i ≡ Some x
        → number x ≡ k → remove xs i ≡ filter (λ y. not (has k y)) xs
    at_remove [] i x a at is = absurd (none-some x at)
    at_remove (y ∷ ys) zero x a at is =
        let here : number y ≡ k = ap number (same_Some y x at) ∙ is in
        sym (cond-false (not (has k y)) _ _ (ap not (eq-eqb (number y) k here))
        ∙ all_kept (has k) ys (none_above (number y) k (omega arith) ys a.0))
    at_remove (y ∷ ys) (suc i) x a at is =
        let above = above_at (number y) ys i x a.0 at in
        ap (λ l. y ∷ l) (at_remove ys i x a.1 at is)
        ∙ sym (cond-true (not (has k y)) (y ∷ filter (λ y. not (has k y)) ys) _
        (ap not (ne_eqb (number y) k (λ e. omega arith))))

    pub at_set : (h : A → A) → ((x : A) → has k x ≡ false → h x ≡ x) → (xs : List A) (i : ℕ) (x : A)
        → Ascends number xs → slice_get xs i ≡ Some x → number x ≡ k → set xs i (h x) ≡ map h xs
    at_set h same [] i x a at is = absurd (none-some x at)
    at_set h same (y ∷ ys) zero x a at is = let here : number y ≡ k = ap number (same_Some y x at) ∙ is in
        ap (λ z. h z ∷ ys) (sym (same_Some y x at)) ∙ ap (λ l. h y ∷ l)
        (sym (none_changed (has k) h same ys (none_above (number y) k (omega arith) ys a.0)))
    at_set h same (y ∷ ys) (suc i) x a at is = let above = above_at (number y) ys i x a.0 at in
        ap (λ z. z ∷ set ys i (h x)) (sym (same y (ne_eqb (number y) k (λ e. omega arith))))
        ∙ ap (λ l. h y ∷ l) (at_set h same ys i x a.1 at is)

  -- the places up to one whose number is below, and those from one on whose number is above
  pub at_or_below : (xs : List A) (i j : ℕ) (x y : A) (k : ℕ) → Ascends number xs → slice_get xs i ≡ Some x
      → slice_get xs j ≡ Some y → i ≤ j → number y < k → number x < k
  at_or_below xs i j x y k a at_x at_y le below =
      ⊎_elim (λ (lt : i < j). let b = before xs i j x y a at_x at_y lt in omega arith)
      (λ (is : i ≡ j). let same : x ≡ y = same_Some x y (sym at_x ∙ (ap (slice_get xs) is ∙ at_y)) in
      subst (λ (z : A). number z < k) (sym same) below)
      (le_cases i j le)

  pub at_or_above : (xs : List A) (i j : ℕ) (x y : A) (k : ℕ) → Ascends number xs → slice_get xs i ≡ Some x
      → slice_get xs j ≡ Some y → j ≤ i → k < number y → k < number x
  at_or_above xs i j x y k a at_x at_y le above =
      ⊎_elim (λ (lt : j < i). let b = before xs j i y x a at_y at_x lt in omega arith)
      (λ (is : j ≡ i). let same : y ≡ x =
      same_Some y x (sym at_y ∙ (ap (slice_get xs) is ∙ at_x)) in subst (λ (z : A). k < number z) same above)
      (le_cases j i le)

  pub above_changed : (h : A → A) → ((x : A) → number (h x) ≡ number x) → (n : ℕ) (xs : List A)
      → AllAbove number n xs → AllAbove number n (map h xs)
  above_changed h same n [] a = tt
  above_changed h same n (x ∷ xs) a =
      let above = a.0 in
      let is = same x in
      (omega arith, above_changed h same n xs a.1)

  pub ascends_changed : (h : A → A) → ((x : A) → number (h x) ≡ number x) → (xs : List A)
      → Ascends number xs → Ascends number (map h xs)
  ascends_changed h same [] a = tt
  ascends_changed h same (x ∷ xs) a = (
    subst (λ (n : ℕ). AllAbove number n (map h xs)) (sym (same x)) (above_changed h same (number x) xs a.0),
    ascends_changed h same xs a.1,
  )
