-- The first and the last place of a list at which a test passes, in the words of the
-- search and in those of std.
use Rattle.std.proofs.Common.{◌≡◌, ℕ, ◌+◌, ◌-◌, ◌<◌, Bool, true, false, not, List, length, drop, get_or}
use Rattle.std.proofs.Common.{Option, Some, None, unwrap_or, refl, ap, sym, arith}
use Rattle.std.specs.List.{after_last, suffix_len, position_or_len, list_any}
use Rattle.std.proofs.lemmas.List.Sums.{suffix_len_is, position_or_len_is}
use Rattle.std.proofs.lemmas.List.Folds.{list_any_none, list_any_at}
use Rattle.std.proofs.lemmas.List.Elements.{All-from_get_or}
use Rattle.memchr.specs.Find.{IsFirstByte, IsLastByte}

-- a test that doesn't pass fails
pub fails : (b : Bool) → ¬ (b ≡ true) → b ≡ false
fails true h = absurd (h refl)
fails false h = refl

-- the first place that passes, or the length where none does
pub first_or_length : (p : ℕ → Bool) (xs : List ℕ) (r : Option ℕ) → IsFirstByte p xs r
    → unwrap_or r (length xs) ≡ position_or_len p xs
first_or_length p xs None none =
    sym (position_or_len_is p xs (length xs) 0 (omega arith)
    (λ j l. fails (p (get_or xs j 0)) (none j (omega arith) l)) (λ l. absurd (omega arith)))
first_or_length p xs (Some k) (found, passes) =
    sym (position_or_len_is p xs k 0 (omega (arith, found.high))
    (λ j l. fails (p (get_or xs j 0)) (found.before j (omega arith) l)) (λ _. passes))

-- the list after the last place that passes
pub after_last-at : (p : ℕ → Bool) (xs : List ℕ) (k : ℕ) → IsLastByte p xs (Some k)
    → after_last p xs ≡ drop (k + 1) xs
after_last-at p xs k (found, passes) =
    let small : k < length xs = found.high in
    let is : suffix_len (λ x. not (p x)) xs ≡ length xs - (k + 1) =
    suffix_len_is (λ x. not (p x)) xs (k + 1) 0 (omega arith)
    (λ j l m. ap not (fails (p (get_or xs j 0)) (found.after j l m)))
    (λ _. let e : k + 1 - 1 ≡ k = omega arith in rw e (ap not passes)) in
    ap (λ n. drop n xs) (omega arith)

-- the whole list where none passes
pub after_last-none : (p : ℕ → Bool) (xs : List ℕ) → IsLastByte p xs None → after_last p xs ≡ xs
after_last-none p xs none =
    let is : suffix_len (λ x. not (p x)) xs ≡ length xs - 0 =
    suffix_len_is (λ x. not (p x)) xs 0 0 (omega arith)
    (λ j l m. ap not (fails (p (get_or xs j 0)) (none j l m)))
    (λ l. absurd (omega arith)) in
    let all : length xs - suffix_len (λ x. not (p x)) xs ≡ 0 = omega arith in
    ap (λ n. drop n xs) all

-- some element passes at the last place
pub any-at : (p : ℕ → Bool) (xs : List ℕ) (k : ℕ) → IsLastByte p xs (Some k) → list_any p xs ≡ true
any-at p xs k (found, passes) = list_any_at p xs k 0 found.high passes

-- no element passes where there is no last place
pub any-none : (p : ℕ → Bool) (xs : List ℕ) → IsLastByte p xs None → list_any p xs ≡ false
any-none p xs none =
    list_any_none p xs
    (All-from_get_or (λ x. p x ≡ false) xs 0 (λ j l. fails (p (get_or xs j 0)) (none j (omega arith) l)))
