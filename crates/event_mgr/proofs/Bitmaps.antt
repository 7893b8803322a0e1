-- What a bitmap of free numbers shows, and how it changes by one number.
use Rattle.std.proofs.Common.{◌≡◌, ◌≢◌, ℕ, ◌+◌, ◌-◌, ◌*◌, ◌<◌, ◌/◌, ◌%◌, ◌^◌, inl, inr, Bool, true, false}
use Rattle.std.proofs.Common.{not, ◌&&◌, ◌||◌, List, length, set, get_or, replicate, sym, ap, subst, ◌∙◌}
use Rattle.std.proofs.Common.{arith}
use Rattle.std.specs.Prelude.{◌==◌}
use Rattle.std.specs.Int.{bit_at}
use Rattle.std.proofs.lemmas.Bool.{eqb-true, eqb-false, eq-eqb, ne_eqb, cases_eq, or_left}
use Rattle.std.proofs.lemmas.List.{get_or_default, get_or-set_same, get_or-set_other, length-set}
use Rattle.std.proofs.lemmas.List.{get_or-replicate}
use Rattle.std.proofs.lemmas.Nat.Bits.{bit_at-zero, bit_at_ones, same_from_bits_below}
use Rattle.event_mgr.specs.FreeNumbers.{put_out, put_in, IsBitmap}
use Rattle.event_mgr.specs.Numbers.{IsLeastFree, AreAllOut}

-- the word that was read at a place
pub read_word : (words : List ℕ) (i w : ℕ) → length words ≡ 64 → i < 64 → w ≡ get_or words i w
    → get_or words i 0 ≡ w
read_word words i w many wi e = get_or_default words i 0 w (omega arith) ∙ sym e

-- ---- one number

put_out_same : (n m : ℕ) (out : ℕ → Bool) → n ≡ m → put_out n out m ≡ true
put_out_same n m out e = or_left _ _ (eq-eqb n m e)

put_out_other : (n m : ℕ) (out : ℕ → Bool) → n ≢ m → put_out n out m ≡ out m
put_out_other n m out e = ap (λ b. b || out m) (ne_eqb n m e)

put_in_same : (n m : ℕ) (out : ℕ → Bool) → n ≡ m → put_in n out m ≡ false
put_in_same n m out e = ap (λ b. not b && out m) (eq-eqb n m e)

put_in_other : (n m : ℕ) (out : ℕ → Bool) → n ≢ m → put_in n out m ≡ out m
put_in_other n m out e = ap (λ b. not b && out m) (ne_eqb n m e)

-- ---- what a bitmap shows

-- whether a number is out, as its word tells
pub word_tells : (out : ℕ → Bool) (words : List ℕ) (s i j w : ℕ) → IsBitmap out words s → i < 64
    → j < 64 → get_or words i 0 ≡ w → out (64 * i + j) ≡ (bit_at w j == 0)
word_tells out words s i j w b wi wj read = b.each i j wi wj ∙ ap (λ x. bit_at x j == 0) read

-- a word of zero has no free number
nought_is_out : (out : ℕ → Bool) (words : List ℕ) (s i j : ℕ) → IsBitmap out words s → i < 64
    → j < 64 → bit_at s i ≡ 0 → out (64 * i + j) ≡ true
nought_is_out out words s i j b wi wj e =
    let nought : get_or words i 0 ≡ 0 = eqb-true _ _ (sym (b.empty i wi) ∙ eq-eqb (bit_at s i) 0 e) in
    b.each i j wi wj ∙ eq-eqb _ _ (ap (λ w. bit_at w j) nought ∙ bit_at-zero j)

pub all_out : (out : ℕ → Bool) (words : List ℕ) (s : ℕ) → IsBitmap out words s → s ≡ 0 → AreAllOut out
all_out out words s b e n wn =
    let place : 64 * (n / 64) + n % 64 ≡ n = omega arith in
    subst (λ m. out m ≡ true) place
    (nought_is_out out words s (n / 64) (n % 64) b (omega arith) (omega arith)
    (ap (λ x. bit_at x (n / 64)) e ∙ bit_at-zero (n / 64)))

-- a word that the summary shows isn't zero
pub word_left : (out : ℕ → Bool) (words : List ℕ) (s i : ℕ) → IsBitmap out words s → i < 64
    → bit_at s i ≡ 1 → 0 < get_or words i 0
word_left out words s i b wi e =
    let other : get_or words i 0 ≢ 0 = eqb-false _ _ (sym (b.empty i wi) ∙ ap (λ x. x == 0) e) in
    omega arith

-- the number of the lowest bit of the lowest word that isn't zero
pub least_free : (out : ℕ → Bool) (words : List ℕ) (s i j : ℕ) → IsBitmap out words s → i < 64 → j < 64
    → bit_at s i ≡ 1 → ((a : ℕ) → a < i → bit_at s a ≡ 0)
    → bit_at (get_or words i 0) j ≡ 1 → ((a : ℕ) → a < j → bit_at (get_or words i 0) a ≡ 0)
    → IsLeastFree out (64 * i + j)
least_free out words s i j b wi wj si below wij low = record {
  within = omega arith;
  free = b.each i j wi wj ∙ ap (λ x. x == 0) wij;
  least = λ m l.
      let place : 64 * (m / 64) + m % 64 ≡ m = omega arith in
      let small : m % 64 < 64 = omega arith in
      subst (λ k. out k ≡ true) place
      (elim (cases_eq (m / 64) i) [
        | inl e ↦ subst (λ a. out (64 * a + m % 64) ≡ true) (sym e)
            (b.each i (m % 64) wi small ∙ eq-eqb _ _ (low (m % 64) (omega arith)))
        | inr e ↦
            nought_is_out out words s (m / 64) (m % 64) b (omega arith) small (below (m / 64) (omega arith))
      ]);
}

-- ---- one number goes out, or comes in

-- the numbers of two places
apart : (i j a k : ℕ) → j < 64 → k < 64 → a ≢ i → 64 * i + j ≢ 64 * a + k
apart i j a k wj wk e = omega arith

aside : (i j k : ℕ) → k ≢ j → 64 * i + j ≢ 64 * i + k
aside i j k e = omega arith

-- the word of a place, and the summary at that place, are written anew
pub out_put : (out : ℕ → Bool) (words : List ℕ) (s i j w t : ℕ) → IsBitmap out words s → i < 64 → j < 64
    → bit_at w j ≡ 0 → ((k : ℕ) → k < 64 → k ≢ j → bit_at w k ≡ bit_at (get_or words i 0) k)
    → (bit_at t i == 0) ≡ (w == 0) → ((k : ℕ) → k < 64 → k ≢ i → bit_at t k ≡ bit_at s k)
    → IsBitmap (put_out (64 * i + j) out) (set words i w) t
out_put out words s i j w t b wi wj cleared same ti others = record {
  many = length-set words i w ∙ b.many;
  each = λ a k wa wk. elim (cases_eq a i) [
    | inl e ↦
        subst (λ x. put_out (64 * i + j) out (64 * x + k) ≡ (bit_at (get_or (set words i w) x 0) k == 0))
        (sym e)
        (subst (λ x. put_out (64 * i + j) out (64 * i + k) ≡ (bit_at x k == 0))
        (sym (get_or-set_same words i w 0 (omega (arith, b.many))))
        (elim (cases_eq k j) [
          | inl f ↦ put_out_same (64 * i + j) (64 * i + k) out (omega arith)
              ∙ sym (eq-eqb _ _ (ap (bit_at w) f ∙ cleared))
          | inr f ↦ put_out_other (64 * i + j) (64 * i + k) out (aside i j k f) ∙ b.each i k wi wk
              ∙ ap (λ x. x == 0) (sym (same k wk f))
        ]))
    | inr e ↦ put_out_other (64 * i + j) (64 * a + k) out (apart i j a k wj wk e) ∙ b.each a k wa wk
        ∙ ap (λ x. bit_at x k == 0) (sym (get_or-set_other words i a w 0 e))
  ];
  empty = λ a wa. elim (cases_eq a i) [
    | inl e ↦ subst (λ x. (bit_at t x == 0) ≡ (get_or (set words i w) x 0 == 0)) (sym e)
        (ti ∙ ap (λ x. x == 0) (sym (get_or-set_same words i w 0 (omega (arith, b.many)))))
    | inr e ↦ ap (λ x. x == 0) (others a wa e) ∙ b.empty a wa
        ∙ ap (λ x. x == 0) (sym (get_or-set_other words i a w 0 e))
  ];
}

pub in_put : (out : ℕ → Bool) (words : List ℕ) (s i j w t : ℕ) → IsBitmap out words s → i < 64 → j < 64
    → bit_at w j ≡ 1 → ((k : ℕ) → k < 64 → k ≢ j → bit_at w k ≡ bit_at (get_or words i 0) k)
    → (bit_at t i == 0) ≡ (w == 0) → ((k : ℕ) → k < 64 → k ≢ i → bit_at t k ≡ bit_at s k)
    → IsBitmap (put_in (64 * i + j) out) (set words i w) t
in_put out words s i j w t b wi wj was same ti others = record {
  many = length-set words i w ∙ b.many;
  each = λ a k wa wk. elim (cases_eq a i) [
    | inl e ↦ subst (λ x. put_in (64 * i + j) out (64 * x + k) ≡ (bit_at (get_or (set words i w) x 0) k == 0))
        (sym e)
        (subst (λ x. put_in (64 * i + j) out (64 * i + k) ≡ (bit_at x k == 0))
        (sym (get_or-set_same words i w 0 (omega (arith, b.many))))
        (elim (cases_eq k j) [
          | inl f ↦ put_in_same (64 * i + j) (64 * i + k) out (omega arith)
              ∙ sym (ap (λ x. x == 0) (ap (bit_at w) f ∙ was))
          | inr f ↦ put_in_other (64 * i + j) (64 * i + k) out (aside i j k f) ∙ b.each i k wi wk
              ∙ ap (λ x. x == 0) (sym (same k wk f))
        ]))
    | inr e ↦ put_in_other (64 * i + j) (64 * a + k) out (apart i j a k wj wk e) ∙ b.each a k wa wk
        ∙ ap (λ x. bit_at x k == 0) (sym (get_or-set_other words i a w 0 e))
  ];
  empty = λ a wa. elim (cases_eq a i) [
    | inl e ↦ subst (λ x. (bit_at t x == 0) ≡ (get_or (set words i w) x 0 == 0)) (sym e)
        (ti ∙ ap (λ x. x == 0) (sym (get_or-set_same words i w 0 (omega (arith, b.many)))))
    | inr e ↦ ap (λ x. x == 0) (others a wa e) ∙ b.empty a wa
        ∙ ap (λ x. x == 0) (sym (get_or-set_other words i a w 0 e))
  ];
}

-- a word with a bit isn't zero
pub has_one : (w k : ℕ) → bit_at w k ≡ 1 → (w == 0) ≡ false
has_one w k e =
    ne_eqb w 0 (λ z. let nought : bit_at w k ≡ 0 = ap (λ x. bit_at x k) z ∙ bit_at-zero k in omega arith)

-- a word that has lost a bit and isn't zero wasn't zero
pub was_some : (v w j : ℕ) → w < 2 ^ 64 → bit_at w j ≡ 0
    → ((k : ℕ) → k < 64 → k ≢ j → bit_at w k ≡ bit_at v k) → w ≢ 0 → v ≢ 0
was_some v w j fits cleared same e z = e
    (same_from_bits_below 64 w 0 fits (omega arith)
    (λ k wk. elim (cases_eq k j) [
      | inl f ↦ ap (bit_at w) f ∙ cleared ∙ sym (bit_at-zero k)
      | inr f ↦ same k wk f ∙ ap (λ x. bit_at x k) z
    ]))

-- a word of the bitmap in which no number is out
full_word : (words : List ℕ) (i : ℕ) → words ≡ replicate 64 (2 ^ 64 - 1) → i < 64
    → get_or words i 0 ≡ 2 ^ 64 - 1
full_word words i e wi = ap (λ ws. get_or ws i 0) e ∙ get_or-replicate 64 i (2 ^ 64 - 1) 0 wi

-- all bits are set, and no number is out
pub all_free : (words : List ℕ) → words ≡ replicate 64 (2 ^ 64 - 1) → IsBitmap (λ n. false) words (2 ^ 64 - 1)
all_free words e = record {
  many = ap length e;
  each =
      λ i j wi wj.
      sym (ap (λ w. bit_at w j == 0) (full_word words i e wi) ∙ ap (λ x. x == 0) (bit_at_ones 64 j wj));
  empty = λ i wi. ap (λ x. x == 0) (bit_at_ones 64 i wi) ∙ sym (ap (λ w. w == 0) (full_word words i e wi));
}
