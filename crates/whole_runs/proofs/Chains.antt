-- Numbers that fall from one to the next by at least what was finished at each.
use Rattle.std.proofs.Common.{◌≡◌, ℕ, zero, suc, ◌+◌, ◌-◌, ◌≤◌, ◌<◌, ⊎_elim, List, [], ◌∷◌, length, true}
use Rattle.std.proofs.Common.{false, sym, refl, ap, ◌∙◌, arith}
use Rattle.std.specs.Prelude.{◌==◌, nat_lt, not}
use Rattle.std.proofs.lemmas.Bool.{eqb-true, eqb-false, ltb-true, ltb-false, cases_Bool}
use Rattle.reg_keys.specs.Tests.{one_if, total}
use Rattle.reg_keys.specs.AllStripes.{sum_below}

-- ---- sums over numbers

pub sum_same : (g h : ℕ → ℕ) (n : ℕ) → ((s : ℕ) → s < n → g s ≡ h s) → sum_below n g ≡ sum_below n h
sum_same g h zero e = refl
sum_same g h (suc n) e =
    let a = e n (omega arith) in
    let r = sum_same g h n (λ s lt. e s (omega arith)) in
    omega arith

pub sum_le : (g h : ℕ → ℕ) (n : ℕ) → ((s : ℕ) → s < n → g s ≤ h s) → sum_below n g ≤ sum_below n h
sum_le g h zero e = omega arith
sum_le g h (suc n) e =
    let a = e n (omega arith) in
    let r = sum_le g h n (λ s lt. e s (omega arith)) in
    omega arith

pub sum_both : (g h : ℕ → ℕ) (n : ℕ) → sum_below n (λ s. g s + h s) ≡ sum_below n g + sum_below n h
sum_both g h zero = omega arith
sum_both g h (suc n) = let r = sum_both g h n in omega arith

pub sum_none : (n : ℕ) → sum_below n (λ s. 0) ≡ 0
sum_none zero = refl
sum_none (suc n) = let r = sum_none n in omega arith

-- the first place of a sum
pub sum_front : (g : ℕ → ℕ) (n : ℕ) → sum_below (suc n) g ≡ g 0 + sum_below n (λ s. g (suc s))
sum_front g zero = omega arith
sum_front g (suc n) = let r = sum_front g n in omega arith

-- ---- numbers that begin with one at most

module _ (a f : ℕ → ℕ) (falls : (k : ℕ) → a (suc k) + f k ≤ a k) where
  no_rise : (k : ℕ) → a k ≤ a 0
  no_rise zero = omega arith
  no_rise (suc k) =
      let r = no_rise k in
      let x = falls k in omega arith

  module _ (begins : a 0 ≤ 1) where
    -- up to a number that still has one, there is one at each
    all_ones : (n : ℕ) → 1 ≤ a n → sum_below (suc n) a ≡ n + 1
    all_ones zero h = omega arith
    all_ones (suc n) h =
        let l = no_rise (suc n) in
        let x = falls n in
        let r = all_ones n (omega arith) in
        omega arith

    -- after a number that has none, there are none
    none_from : (n d : ℕ) → a n ≡ 0 → a (d + n) ≡ 0
    none_from n zero z = let e : 0 + n ≡ n = omega arith in ap a e ∙ z
    none_from n (suc d) z =
        let r = none_from n d z in
        let x = falls (d + n) in
        let e : suc d + n ≡ suc (d + n) = omega arith in
        let y = ap a e in
        omega arith

    no_more : (n d : ℕ) → a n ≡ 0 → sum_below (d + n) a ≡ sum_below n a
    no_more n zero z = let e : 0 + n ≡ n = omega arith in ap (λ (k : ℕ). sum_below k a) e
    no_more n (suc d) z =
        let r = no_more n d z in
        let x = none_from n d z in
        let e : suc d + n ≡ suc (d + n) = omega arith in
        let y = ap (λ (k : ℕ). sum_below k a) e in
        omega arith

    -- where something is finished at a number, there was one at each up to it, and none after it
    up_to_it : (n m : ℕ) → 1 ≤ f n → n < m → sum_below m a ≡ n + 1
    up_to_it n m h lt =
        let x = falls n in
        let l = no_rise n in
        let ones = all_ones n (omega arith) in
        let gone : a (suc n) ≡ 0 = omega arith in
        let more = no_more (suc n) (m - suc n) gone in
        let e : (m - suc n) + suc n ≡ m = omega arith in
        ap (λ (k : ℕ). sum_below k a) (sym e) ∙ (more ∙ ones)

    -- so as many were there after the first as its number says
    pub registered : (n m : ℕ) → 1 ≤ f n → n ≤ m → sum_below m (λ k. a (suc k)) ≡ n
    registered n m h le =
        let x = falls n in
        let l = no_rise n in
        let s = up_to_it n (suc m) h (omega arith) in
        let t = sum_front a m in omega arith

-- ---- numbers of which as many are finished as begin

-- 1 up to n, and 0 after it
abbrev up_to : ℕ → ℕ → ℕ
up_to n k = one_if (not (nat_lt n k))

up_to_zero : (n : ℕ) → up_to n 0 ≡ 1
up_to_zero n =
    ⊎_elim (λ (h : nat_lt n 0 ≡ true). let x = ltb-true n 0 h in absurd (omega arith))
    (λ (h : nat_lt n 0 ≡ false). ap (λ b. one_if (not b)) h) (cases_Bool (nat_lt n 0))

up_to_next : (n k : ℕ) → up_to n (suc k) + one_if (n == k) ≡ up_to n k
up_to_next n k = ⊎_elim
    (λ (h : (n == k) ≡ true).
    let e = eqb-true n k h in
    let b = ap one_if h in ⊎_elim
    (λ (x : nat_lt n (suc k) ≡ true). let c =
    ap (λ b. one_if (not b)) x in ⊎_elim (λ (y : nat_lt n k ≡ true). let z =
    ltb-true n k y in absurd (omega arith)) (λ (y : nat_lt n k ≡ false). let d =
    ap (λ b. one_if (not b)) y in omega arith) (cases_Bool (nat_lt n k)))
    (λ (x : nat_lt n (suc k) ≡ false). let z =
    ltb-false n (suc k) x in absurd (omega arith)) (cases_Bool (nat_lt n (suc k))))
    (λ (h : (n == k) ≡ false).
    let e = eqb-false n k h in
    let b = ap one_if h in ⊎_elim
    (λ (x : nat_lt n (suc k) ≡ true).
    let w = ltb-true n (suc k) x in
    let c = ap (λ b. one_if (not b)) x in
    ⊎_elim (λ (y : nat_lt n k ≡ true). let d =
    ap (λ b. one_if (not b)) y in omega arith) (λ (y : nat_lt n k ≡ false). let z =
    ltb-false n k y in absurd (e (omega arith))) (cases_Bool (nat_lt n k)))
    (λ (x : nat_lt n (suc k) ≡ false).
    let w = ltb-false n (suc k) x in
    let c = ap (λ b. one_if (not b)) x in
    ⊎_elim (λ (y : nat_lt n k ≡ true). let z =
    ltb-true n k y in absurd (omega arith)) (λ (y : nat_lt n k ≡ false). let d =
    ap (λ b. one_if (not b)) y in omega arith) (cases_Bool (nat_lt n k))) (cases_Bool (nat_lt n (suc k))))
    (cases_Bool (n == k))

-- as many ones as numbers up to n
ones_all : (n m : ℕ) → n < m → sum_below m (up_to n) ≡ n + 1
ones_all n zero lt = absurd (omega arith)
ones_all n (suc m) lt = ⊎_elim
    (λ (h : nat_lt n m ≡ true).
    let x = ltb-true n m h in
    let d = ap (λ b. one_if (not b)) h in
    let r = ones_all n m x in
    omega arith)
    (λ (h : nat_lt n m ≡ false).
    let x = ltb-false n m h in
    let d = ap (λ b. one_if (not b)) h in
    let s = to m (omega arith) in
    omega arith)
    (cases_Bool (nat_lt n m))
  where
    to : (j : ℕ) → j ≤ n → sum_below j (up_to n) ≡ j
    to zero le = refl
    to (suc j) le = let r = to j (omega arith) in ⊎_elim
        (λ (h : nat_lt n j ≡ true). let x = ltb-true n j h in absurd (omega arith))
        (λ (h : nat_lt n j ≡ false). let d =
        ap (λ b. one_if (not b)) h in omega arith) (cases_Bool (nat_lt n j))

-- a sum over numbers and over a list, either way round
swap : {A : Type 0} (g : ℕ → A → ℕ) (m : ℕ) (xs : List A)
    → sum_below m (λ k. total (g k) xs) ≡ total (λ x. sum_below m (λ k. g k x)) xs
swap g m [] = sum_none m
swap g m (x ∷ xs) =
    let r = swap g m xs in
    let b = sum_both (λ k. g k x) (λ k. total (g k) xs) m in
    omega arith

module _ {A : Type 0} (num : A → ℕ) where
  -- each is below m
  AreBelow : ℕ → List A → Type 0
  AreBelow m [] = Unit {0}
  AreBelow m (x ∷ xs) = (num x < m) × AreBelow m xs

  below_more : (m n : ℕ) (xs : List A) → m ≤ n → AreBelow m xs → AreBelow n xs
  unfolding AreBelow
  below_more m n [] le b = tt
  below_more m n (x ∷ xs) le b = (let c = b.0 in omega arith, below_more m n xs le b.1)

  -- a number above each of them
  pub above : List A → ℕ
  above xs = total (λ x. num x + 1) xs

  are_below : (xs : List A) → AreBelow (above xs) xs
  unfolding above AreBelow
  are_below [] = tt
  are_below (x ∷ xs) = (
    omega arith,
    below_more (total (λ x. num x + 1) xs) (num x + 1 + total (λ x. num x + 1) xs) xs
        (omega arith) (are_below xs),
  )

  reach : List A → ℕ → ℕ
  reach xs k = total (λ x. up_to (num x) k) xs

  reach_zero : (xs : List A) → total (λ x. up_to (num x) 0) xs ≡ length xs
  reach_zero [] = refl
  reach_zero (x ∷ xs) =
      let r = reach_zero xs in
      let a = up_to_zero (num x) in omega arith

  reach_next : (k : ℕ) (xs : List A)
      → total (λ x. up_to (num x) (suc k)) xs + total (λ x. one_if (num x == k)) xs
      ≡ total (λ x. up_to (num x) k) xs
  reach_next k [] = omega arith
  reach_next k (x ∷ xs) =
      let r = reach_next k xs in
      let a = up_to_next (num x) k in omega arith

  reach_all : (m : ℕ) (xs : List A) → AreBelow m xs
      → sum_below m (λ k. total (λ x. up_to (num x) k) xs) ≡ total (λ x. num x + 1) xs
  unfolding AreBelow
  reach_all m xs below = swap (λ k x. up_to (num x) k) m xs ∙ each xs below
    where
      each : (xs : List A) → AreBelow m xs
          → total (λ x. sum_below m (λ k. up_to (num x) k)) xs ≡ total (λ x. num x + 1) xs
      each [] b = refl
      each (x ∷ xs) b =
          let a = ones_all (num x) m b.0 in
          let r = each xs b.1 in omega arith

  none_reach : (m : ℕ) (xs : List A) → AreBelow m xs → total (λ x. up_to (num x) m) xs ≡ 0
  unfolding AreBelow
  none_reach m [] b = refl
  none_reach m (x ∷ xs) b =
      let lt = b.0 in
      let r = none_reach m xs b.1 in ⊎_elim
      (λ (h : nat_lt (num x) m ≡ true). let d = ap (λ b. one_if (not b)) h in omega arith)
      (λ (h : nat_lt (num x) m ≡ false). let y =
      ltb-false (num x) m h in absurd (omega arith)) (cases_Bool (nat_lt (num x) m))

  module _ (xs : List A) (a : ℕ → ℕ)
      (falls : (k : ℕ) → a (suc k) + total (λ x. one_if (num x == k)) xs ≤ a k) where
    -- from above: there are no more than began
    most : a 0 ≤ length xs → (k : ℕ) → a k ≤ total (λ x. up_to (num x) k) xs
    most begins zero = let z = reach_zero xs in omega arith
    most begins (suc k) =
        let r = most begins k in
        let f = falls k in
        let n = reach_next k xs in omega arith

    -- from below: what was finished later was there before
    least : (m d : ℕ) → total (λ x. up_to (num x) (d + m)) xs ≡ 0 → total (λ x. up_to (num x) m) xs ≤ a m
    least m zero z =
        let e : 0 + m ≡ m = omega arith in
        let y = ap (λ (k : ℕ). total (λ x. up_to (num x) k) xs) e in
        omega arith
    least m (suc d) z =
        let e : suc d + m ≡ d + suc m = omega arith in
        let y = ap (λ (k : ℕ). total (λ x. up_to (num x) k) xs) e in
        let r = least (suc m) d (omega arith) in
        let f = falls m in
        let n = reach_next m xs in
        omega arith

    -- where no more begin than are finished, each was there up to its number
    even : a 0 ≤ length xs → (m : ℕ) → AreBelow m xs → sum_below m a ≡ total (λ x. num x + 1) xs
    even begins m below = sum_same a (λ k. total (λ x. up_to (num x) k) xs) m (λ k lt.
        let hi = most begins k in
        let e : (m - k) + k ≡ m = omega arith in
        let lo =
        least k (m - k) (ap (λ (j : ℕ). total (λ x. up_to (num x) j) xs) e ∙ none_reach m xs below) in
        omega arith)
        ∙ reach_all m xs below

    one_more : (ys : List A) → total (λ x. num x + 1) ys ≡ total num ys + length ys
    one_more [] = refl
    one_more (y ∷ ys) = let r = one_more ys in omega arith

    -- so after the first there were as many as all numbers together
    pub registered_all : a 0 ≡ length xs → (m : ℕ) → above xs ≤ m
        → sum_below m (λ k. a (suc k)) ≡ total num xs
    registered_all begins m le =
        let s = even (omega arith) (suc m) (below_more (above xs) (suc m) xs (omega arith) (are_below xs)) in
        let t = sum_front a m in
        let o = one_more xs in omega arith
