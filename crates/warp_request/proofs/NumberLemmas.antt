-- Two decimal numbers are the same exactly where their digits after leading zeros are.
use Rattle.std.proofs.Common.{◌≡◌, ◌≢◌, ℕ, ◌<◌, ◌≤◌, ◌⊎◌, Bool, true, false, cond, not, List, [], ◌∷◌, length}
use Rattle.std.proofs.Common.{refl, sym, ap, ◌∙◌, inl, inr, arith}
use Rattle.std.specs.Prelude.{◌==◌, fold, nat_le, bytes_eq}
use Rattle.std.specs.Bool.{one_answer}
use Rattle.std.specs.List.{list_all}
use Rattle.std.proofs.lemmas.Bool.{cases_lt, eq-eqb, and_parts}
use Rattle.std.proofs.lemmas.Bool.Decides.{nat_tests}
use Rattle.std.proofs.lemmas.Slice.Eq.{bytes_eq-Decides}
use Rattle.warp_request.specs.Content.{decimal_of, is_digit, with_decimal}
use Rattle.warp_request.specs.NamedLines.{skip_zeros}

-- the number that digits make after a number
abbrev behind : ℕ → List ℕ → ℕ
behind n digits = fold with_decimal n digits

digit_from : (d : ℕ) → is_digit d ≡ true → (48 ≤ d) × (d ≤ 57)
digit_from d is =
    let x = and_parts (nat_le 48 d) (nat_le d 57) is in
    (grind (arith, nat_tests), grind (arith, nat_tests))

-- a number that is after a smaller one is smaller, with as many digits
less : (a b : List ℕ) (m n : ℕ) → list_all is_digit a ≡ true → list_all is_digit b ≡ true
    → length a ≡ length b → m < n → behind m a < behind n b
less [] [] m n p q same below = below
less [] (y ∷ b) m n p q same below = absurd (omega (arith, same))
less (x ∷ a) [] m n p q same below = absurd (omega (arith, same))
less (x ∷ a) (y ∷ b) m n p q same below =
    let px = and_parts (is_digit x) (list_all is_digit a) p in
    let qy = and_parts (is_digit y) (list_all is_digit b) q in
    let dx = digit_from x px.0 in
    let dy = digit_from y qy.0 in
    less a b (with_decimal m x) (with_decimal n y) px.1 qy.1 (omega (arith, same))
    (omega (arith, below, dx.0, dx.1, dy.0, dy.1))

-- one after a larger number is larger, with as many digits or more
longer : (a b : List ℕ) (m : ℕ) → list_all is_digit a ≡ true → list_all is_digit b ≡ true
    → length b ≤ length a → 0 < m → behind 0 b < behind m a
longer [] b m p q fits some = less b [] 0 m q refl (omega (arith, fits)) some
longer (x ∷ a) b m p q fits some =
    go (cases_lt (length a) (length b)) (λ shorter. longer a b (with_decimal m x) rest q shorter larger)
  where
    rest : list_all is_digit a ≡ true
    rest = let px = and_parts (is_digit x) (list_all is_digit a) p in px.1

    larger : 0 < with_decimal m x
    larger = omega (arith, some)

    go : (length a < length b) ⊎ (length b ≤ length a)
        → (length b ≤ length a → behind 0 b < behind (with_decimal m x) a) → behind 0 b < behind m (x ∷ a)
    go (inl full) again = less b (x ∷ a) 0 m q p (omega (arith, full, fits)) some
    go (inr shorter) again = again shorter

-- as many digits that make the same number are the same
equal : (a b : List ℕ) (m n : ℕ) → list_all is_digit a ≡ true → list_all is_digit b ≡ true
    → length a ≡ length b → behind m a ≡ behind n b → (m ≡ n) × (a ≡ b)
equal [] [] m n p q same e = (e, refl)
equal [] (y ∷ b) m n p q same e = absurd (omega (arith, same))
equal (x ∷ a) [] m n p q same e = absurd (omega (arith, same))
equal (x ∷ a) (y ∷ b) m n p q same e =
    let px = and_parts (is_digit x) (list_all is_digit a) p in
    let qy = and_parts (is_digit y) (list_all is_digit b) q in
    let dx = digit_from x px.0 in
    let dy = digit_from y qy.0 in
    let rest = equal a b (with_decimal m x) (with_decimal n y) px.1 qy.1 (omega (arith, same)) e in
    let one : m ≡ n = omega (arith, rest.0, dx.0, dx.1, dy.0, dy.1) in
    let first : x ≡ y = omega (arith, rest.0, dx.0, dx.1, dy.0, dy.1) in
    (one, ap (λ d. d ∷ a) first ∙ ap (λ (l : List ℕ). y ∷ l) rest.1)

-- digits without a zero before them
abbrev pub begins_right : List ℕ → Bool
begins_right [] = true
begins_right (d ∷ digits) = not (d == 48)

shorter_less : (a b : List ℕ) → begins_right a ≡ true → list_all is_digit a ≡ true
    → list_all is_digit b ≡ true → length b < length a → decimal_of b < decimal_of a
shorter_less [] b right p q short = absurd (omega (arith, short))
shorter_less (x ∷ a) b right p q short =
    let px = and_parts (is_digit x) (list_all is_digit a) p in
    let dx = digit_from x px.0 in
    let other : x ≢ 48 = λ e.
    let is : (x == 48) ≡ true = eq-eqb x 48 e in
    let none = sym right ∙ ap not is in
    absurd cc in
    longer a b (with_decimal 0 x) px.1 q (omega (arith, short)) (omega (arith, dx.0, other))

-- the law: the same number has the same digits after its zeros
unique : (a b : List ℕ) → begins_right a ≡ true → begins_right b ≡ true → list_all is_digit a ≡ true
    → list_all is_digit b ≡ true → decimal_of a ≡ decimal_of b → a ≡ b
unique a b right_a right_b p q e = go (cases_lt (length a) (length b)) (cases_lt (length b) (length a))
  where
    go : (length a < length b) ⊎ (length b ≤ length a) → (length b < length a) ⊎ (length a ≤ length b) → a ≡ b
    go (inl short) other = let less = shorter_less b a right_b q p short in absurd (omega (arith, less, e))
    go (inr one) (inl short) =
        let less = shorter_less a b right_a p q short in
        absurd (omega (arith, less, e))
    go (inr one) (inr two) = let same = equal a b 0 0 p q (omega (arith, one, two)) e in same.1

-- ---- leading zeros

pub skip_decimal : (digits : List ℕ) → decimal_of (skip_zeros digits) ≡ decimal_of digits
unfolding skip_zeros
skip_decimal [] = refl
skip_decimal (d ∷ digits) = by (d == 48) refl (skip_decimal digits)
  where
    by : (z : Bool) → (d == 48) ≡ z → decimal_of (skip_zeros digits) ≡ decimal_of digits
        → decimal_of (cond z (skip_zeros digits) (d ∷ digits)) ≡ decimal_of (d ∷ digits)
    by true e rest =
        let is : d ≡ 48 = grind (arith, nat_tests) in
        let none : 0 ≡ with_decimal 0 d = omega (arith, is) in
        rest ∙ ap (λ n. fold with_decimal n digits) none
    by false e rest = refl

pub skip_digits : (digits : List ℕ) → list_all is_digit digits ≡ true
    → list_all is_digit (skip_zeros digits) ≡ true
unfolding skip_zeros
skip_digits [] all = refl
skip_digits (d ∷ digits) all = by (d == 48) (skip_digits digits parts.1)
  where
    parts : (is_digit d ≡ true) × (list_all is_digit digits ≡ true)
    parts = and_parts (is_digit d) (list_all is_digit digits) all

    by : (z : Bool) → list_all is_digit (skip_zeros digits) ≡ true
        → list_all is_digit (cond z (skip_zeros digits) (d ∷ digits)) ≡ true
    by true rest = rest
    by false rest = all

pub skip_right : (digits : List ℕ) → begins_right (skip_zeros digits) ≡ true
unfolding skip_zeros
skip_right [] = refl
skip_right (d ∷ digits) = by (d == 48) refl (skip_right digits)
  where
    by : (z : Bool) → (d == 48) ≡ z → begins_right (skip_zeros digits) ≡ true
        → begins_right (cond z (skip_zeros digits) (d ∷ digits)) ≡ true
    by true e rest = rest
    by false e rest = ap not e

-- a number and a member of the list are told apart by their digits
pub same_number : (first member : List ℕ) → begins_right first ≡ true → list_all is_digit first ≡ true
    → list_all is_digit member ≡ true
    → bytes_eq first (skip_zeros member) ≡ (decimal_of member == decimal_of first)
same_number first member right p q =
    one_answer (bytes_eq first (skip_zeros member)) (decimal_of member == decimal_of first)
    (bytes_eq-Decides first (skip_zeros member)) (
      (λ e. let is : decimal_of member ≡ decimal_of first = grind (arith, nat_tests) in
          unique first (skip_zeros member) right (skip_right member) p (skip_digits member q)
          (sym is ∙ sym (skip_decimal member))),
      (λ e.
          eq-eqb (decimal_of member) (decimal_of first) (sym (skip_decimal member) ∙ sym (ap decimal_of e))),
    )
