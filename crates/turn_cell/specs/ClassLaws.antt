-- Inner: laws that crates above cite: of classes that are cut in two, and of lists of classes put together.
use Rattle.std.proofs.Common.{◌≡◌, ◌≢◌, ℕ, zero, suc, ◌+◌, ◌*◌, ◌/◌, ◌%◌, ◌^◌, ◌<◌, ◌≤◌, ◌⊎◌, inl, inr}
use Rattle.std.proofs.Common.{⊎_elim, List, [], ◌∷◌, ◌++◌, true, false, Bool, sym, refl, ap, ◌∙◌, arith}
use Rattle.std.proofs.Common.{mod-lt}
use Rattle.std.specs.Prelude.{◌==◌, ◌||◌}
use Rattle.std.proofs.Math.Nat.{mod-eq_of_lt}
use Rattle.std.proofs.lemmas.Nat.{mod-pow-add, pow_pos, pow-add}
use Rattle.std.proofs.lemmas.Bool.{both_ways, or_cases, or_left, or_right, eqb-true, eq-eqb}
use Rattle.turn_cell.specs.Weights.{one_if}
use Rattle.turn_cell.specs.Classes.{InClass, Within, within, count_in, OnlyFirsts, AreClasses, Apart, halved}
use Rattle.turn_cell.specs.Classes.{other_half}
use Rattle.turn_cell.specs.ListLaws.{same_or, one_eq, one_ne, weigh-append}

twice : (k : ℕ) → 2 ^ (k + 1) ≡ 2 ^ k + 2 ^ k
twice k = pow-add 2 k 1 ∙ omega arith

bit_cases : (q p : ℕ) → ((q % 2) * p ≡ 0) ⊎ ((q % 2) * p ≡ p)
bit_cases q p = by_bit (q % 2) p (mod-lt q (omega arith))
  where
    by_bit : (b p : ℕ) → b < 2 → (b * p ≡ 0) ⊎ (b * p ≡ p)
    by_bit zero p h = inl (omega arith)
    by_bit (suc zero) p h = inr (omega arith)
    by_bit (suc (suc b)) p h = absurd (omega arith)

-- what n leaves by 2 ^ (k + 1) is what it leaves by 2 ^ k, or 2 ^ k more
pub two_halves : (n k : ℕ) → (n % 2 ^ (k + 1) ≡ n % 2 ^ k) ⊎ (n % 2 ^ (k + 1) ≡ n % 2 ^ k + 2 ^ k)
two_halves n k =
    let e : n % 2 ^ (k + 1) ≡ (n / 2 ^ k % 2 ^ 1) * 2 ^ k + n % 2 ^ k =
    ap (λ (j : ℕ). n % 2 ^ j) (omega arith) ∙ mod-pow-add n 1 k in
    ⊎_elim (λ z. inl (omega arith)) (λ o. inr (omega arith)) (bit_cases (n / 2 ^ k) (2 ^ k))

-- what leaves r by 2 ^ (k + 1) leaves r by 2 ^ k
pub left_in : (n r k : ℕ) → r < 2 ^ k → n % 2 ^ (k + 1) ≡ r → n % 2 ^ k ≡ r
left_in n r k small is = ⊎_elim (λ e. sym e ∙ is) (λ e. absurd (omega arith)) (two_halves n k)

-- and so does what leaves r + 2 ^ k
pub right_in : (n r k : ℕ) → n % 2 ^ (k + 1) ≡ r + 2 ^ k → n % 2 ^ k ≡ r
right_in n r k is =
    let low : n % 2 ^ k < 2 ^ k = mod-lt n (pow_pos k) in
    ⊎_elim (λ e. absurd (omega arith)) (λ e. omega arith) (two_halves n k)

-- no number is in both halves
pub not_both : (n r k : ℕ) → n % 2 ^ (k + 1) ≡ r → n % 2 ^ (k + 1) ≡ r + 2 ^ k → ⊥
not_both n r k a b = let p = pow_pos k in omega arith

-- what is in a half is in the whole
pub left_within : (n : ℕ) (cs : List (ℕ × ℕ)) → AreClasses cs → Within n (halved cs) → Within n cs
left_within n [] are w = w
left_within n (c ∷ cs) are w = ⊎_elim (λ h. inl (left_in n c.0 c.1 are.0 h)) (λ h. inr h) w

-- what is in the other half is in the whole
pub right_within : (n : ℕ) (cs : List (ℕ × ℕ)) → Within n (other_half cs) → Within n cs
right_within n [] w = w
right_within n (c ∷ cs) w = ⊎_elim (λ h. inl (right_in n c.0 c.1 h)) (λ h. absurd h) w

-- no number is in both halves of classes
pub halves_apart : (cs : List (ℕ × ℕ)) → AreClasses cs → Apart (halved cs) (other_half cs)
halves_apart [] are n a b = a
halves_apart (c ∷ cs) are n a b = ⊎_elim (λ (h : InClass n (c.0 + 2 ^ c.1, c.1 + 1)).
    ⊎_elim (λ (k : InClass n (c.0, c.1 + 1)). not_both n c.0 c.1 k h)
    (λ (k : Within n cs). are.1 n (right_in n c.0 c.1 h) k) a)
    (λ h. h) b

-- the first halves of classes are classes
pub halved_are : (cs : List (ℕ × ℕ)) → AreClasses cs → AreClasses (halved cs)
halved_are [] are = tt
halved_are (c ∷ cs) are =
    let t = twice c.1 in
    let a = are.0 in
    (omega arith, (λ n h w. are.1 n (left_in n c.0 c.1 are.0 h) w), are.2)

-- and so is the other half
pub other_are : (cs : List (ℕ × ℕ)) → AreClasses cs → AreClasses (other_half cs)
other_are [] are = tt
other_are (c ∷ cs) are =
    let t = twice c.1 in
    let a = are.0 in (omega arith, (λ n h w. w), tt)

-- what is a first of classes is a first of their halves
pub halved_firsts : (n : ℕ) (cs : List (ℕ × ℕ)) → AreClasses cs → OnlyFirsts n cs → OnlyFirsts n (halved cs)
halved_firsts n [] are o = tt
halved_firsts n (c ∷ cs) are o = ((λ h. o.0 (left_in n c.0 c.1 are.0 h)), o.1)

-- no entry that is at a first has a seat in the other half
pub other_out : (n : ℕ) (cs : List (ℕ × ℕ)) → AreClasses cs → OnlyFirsts n cs → ¬ (Within n (other_half cs))
other_out n [] are o w = w
other_out n (c ∷ cs) are o w = ⊎_elim (λ (h : InClass n (c.0 + 2 ^ c.1, c.1 + 1)).
    let is : n ≡ c.0 = o.0 (right_in n c.0 c.1 h) in
    let t = twice c.1 in
    let a = are.0 in
    let low : c.0 % 2 ^ (c.1 + 1) ≡ c.0 = mod-eq_of_lt (omega arith) in
    let high : c.0 % 2 ^ (c.1 + 1) ≡ c.0 + 2 ^ c.1 = ap (λ (m : ℕ). m % 2 ^ (c.1 + 1)) (sym is) ∙ h in
    let p = pow_pos c.1 in omega arith) (λ h. h) w

-- what is within two lists of classes is within the one or the other
pub within_append : (n : ℕ) (cs ds : List (ℕ × ℕ)) → Within n (cs ++ ds) → Within n cs ⊎ Within n ds
within_append n [] ds w = inr w
within_append n (c ∷ cs) ds w =
    ⊎_elim (λ h. inl (inl h)) (λ h. ⊎_elim (λ k. inl (inr k)) (λ k. inr k) (within_append n cs ds h)) w

-- classes that are apart are classes together
pub are_append : (cs ds : List (ℕ × ℕ)) → AreClasses cs → AreClasses ds → Apart cs ds → AreClasses (cs ++ ds)
are_append [] ds a b apart = b
are_append (c ∷ cs) ds a b apart = (
  a.0,
  (λ n h w. ⊎_elim (λ k. a.1 n h k) (λ k. apart n (inl h) k) (within_append n cs ds w)),
  are_append cs ds a.2 b (λ n h k. apart n (inr h) k),
)

-- what is a first of each is a first of both together
pub firsts_append : (n : ℕ) (cs ds : List (ℕ × ℕ)) → OnlyFirsts n cs → OnlyFirsts n ds
    → OnlyFirsts n (cs ++ ds)
firsts_append n [] ds a b = b
firsts_append n (c ∷ cs) ds a b = (a.0, firsts_append n cs ds a.1 b)

-- classes that are apart from others stay so, one way and the other
pub turned_apart : (cs ds : List (ℕ × ℕ)) → Apart cs ds → Apart ds cs
turned_apart cs ds a n h k = a n k h

-- what is within the first list is within both together
pub within_left : (n : ℕ) (cs ds : List (ℕ × ℕ)) → Within n cs → Within n (cs ++ ds)
within_left n [] ds w = absurd w
within_left n (c ∷ cs) ds w = ⊎_elim (λ h. inl h) (λ h. inr (within_left n cs ds h)) w

-- and what is within the second
pub within_right : (n : ℕ) (cs ds : List (ℕ × ℕ)) → Within n ds → Within n (cs ++ ds)
within_right n [] ds w = w
within_right n (c ∷ cs) ds w = inr (within_right n cs ds w)

-- two lists of classes that together are classes are apart
pub append_apart : (cs ds : List (ℕ × ℕ)) → AreClasses (cs ++ ds) → Apart cs ds
append_apart [] ds are n h k = h
append_apart (c ∷ cs) ds are n h k =
    ⊎_elim (λ x. are.1 n x (within_right n cs ds k)) (λ x. append_apart cs ds are.2 n x k) h

-- a list that has items has some with more after it
pub append_full : {A : Type 0} (xs ys : List A) → xs ≢ [] → xs ++ ys ≢ []
append_full [] ys full e = full refl
append_full (x ∷ xs) ys full e = absurd (grind arith)

-- where there is a class there is a half
pub halved_full : (cs : List (ℕ × ℕ)) → cs ≢ [] → halved cs ≢ []
halved_full [] full e = full refl
halved_full (c ∷ cs) full e = absurd (grind arith)

-- and another half
pub other_full : (cs : List (ℕ × ℕ)) → cs ≢ [] → other_half cs ≢ []
other_full [] full e = full refl
other_full (c ∷ cs) full e = absurd (grind arith)

-- the test says what the fact says
pub within_is : (cs : List (ℕ × ℕ)) (n : ℕ) → within cs n ≡ true → Within n cs
within_is [] n e = both_ways false refl e
within_is (c ∷ cs) n e =
    ⊎_elim (λ h. inl (eqb-true (n % 2 ^ c.1) c.0 h)) (λ h. inr (within_is cs n h))
    (or_cases (n % 2 ^ c.1 == c.0) (within cs n) e)

-- and the fact what the test says
pub is_within : (cs : List (ℕ × ℕ)) (n : ℕ) → Within n cs → within cs n ≡ true
is_within [] n w = absurd w
is_within (c ∷ cs) n w =
    ⊎_elim (λ h. or_left (n % 2 ^ c.1 == c.0) _ (eq-eqb (n % 2 ^ c.1) c.0 h))
    (λ h. or_right (n % 2 ^ c.1 == c.0) _ (is_within cs n h)) w

-- the test of two lists together
pub within-append : (cs ds : List (ℕ × ℕ)) (n : ℕ) → within (cs ++ ds) n ≡ (within cs n || within ds n)
within-append [] ds n = refl
within-append (c ∷ cs) ds n =
    ap (λ b. (n % 2 ^ c.1 == c.0) || b) (within-append cs ds n)
    ∙ regroup (n % 2 ^ c.1 == c.0) (within cs n) (within ds n)
  where
    regroup : (a b d : Bool) → (a || (b || d)) ≡ ((a || b) || d)
    regroup true b d = refl
    regroup false b d = refl

-- where a class is cut in two, each number of it is in one half
half_ones : (a b r p : ℕ) → r < p → b < p → (a ≡ b) ⊎ (a ≡ b + p)
    → one_if (a == r) + one_if (a == r + p) ≡ one_if (b == r)
half_ones a b r p rs bs at =
    ⊎_elim (λ (e : a ≡ b). ⊎_elim (λ (s : b ≡ r).
    let x = one_eq a r (e ∙ s) in
    let y = one_ne a (r + p) (λ h. omega arith) in
    let z = one_eq b r s in
    omega arith)
    (λ (s : b ≢ r).
    let x = one_ne a r (λ h. s (sym e ∙ h)) in
    let y = one_ne a (r + p) (λ h. omega arith) in
    let z = one_ne b r s in
    omega arith) (same_or b r))
    (λ (e : a ≡ b + p). ⊎_elim (λ (s : b ≡ r).
    let x = one_ne a r (λ h. omega arith) in
    let y = one_eq a (r + p) (omega arith) in
    let z = one_eq b r s in
    omega arith)
    (λ (s : b ≢ r).
    let x = one_ne a r (λ h. omega arith) in
    let y = one_ne a (r + p) (λ h. s (omega arith)) in
    let z = one_ne b r s in
    omega arith) (same_or b r)) at

-- the halves together have each number as often as the whole
pub count_halves : (n : ℕ) (cs : List (ℕ × ℕ)) → AreClasses cs
    → count_in n (halved cs) + count_in n (other_half cs) ≡ count_in n cs
count_halves n [] are = omega arith
count_halves n (c ∷ cs) are =
    let h = half_ones (n % 2 ^ (c.1 + 1)) (n % 2 ^ c.1) c.0
    (2 ^ c.1) are.0 (mod-lt n (pow_pos c.1)) (two_halves n c.1) in
    omega arith

-- two lists together have each number as often as both
pub count_in-append : (n : ℕ) (cs ds : List (ℕ × ℕ)) → count_in n (cs ++ ds) ≡ count_in n cs + count_in n ds
count_in-append n cs ds = weigh-append (λ (c : ℕ × ℕ). one_if (n % 2 ^ c.1 == c.0)) cs ds

or_ones : (b d : Bool) (n : ℕ) → one_if b + n ≤ 1 → (n ≤ 1 → one_if d ≡ n) → one_if (b || d) ≡ one_if b + n
or_ones true d n h r = omega arith
or_ones false d n h r = let e = r (omega arith) in omega arith

-- a number that is in one class at most is within them exactly as often as it is in one
pub count_within : (cs : List (ℕ × ℕ)) (n : ℕ) → count_in n cs ≤ 1 → one_if (within cs n) ≡ count_in n cs
count_within [] n le = refl
count_within (c ∷ cs) n le = or_ones (n % 2 ^ c.1 == c.0) (within cs n) (count_in n cs) le (count_within cs n)
