-- The places that are listed for a class of keys, word by word.
use Rattle.std.proofs.Common.{◌≡◌, ℕ, suc, zero, ◌+◌, ◌*◌, ◌<◌, ◌≤◌, ◌≢◌, ◌⊎◌, inl, inr, ◌%◌, ◌/◌, ⊎_elim}
use Rattle.std.proofs.Common.{List, [], ◌∷◌, ◌++◌, length, set, take, true, false, Bool, sym, refl, ap, ◌∙◌}
use Rattle.std.proofs.Common.{subst, get_or, arith}
use Rattle.std.specs.Prelude.{Option, Some, None, IfNone, filter, ◌==◌, slice_get}
use Rattle.std.specs.List.{list_any}
use Rattle.std.specs.Int.{bit_at}
use Rattle.std.proofs.lemmas.Bool.{both_ways, eqb-true, eq-eqb, cases_Bool, or_cases, or_left, or_right}
use Rattle.std.proofs.lemmas.List.{get_or-set_same, get_or-set_other}
use Rattle.std.proofs.lemmas.Option.{same_Some, none-some, slice_get_within}
use Rattle.reg_keys.specs.ListLaws.{in_filter, in_some, some_in}
use Rattle.stripe_table.specs.Descriptors.{waits_as}
use Rattle.stripe_table.specs.Index.{word_of, IsListed, KeepsOthers, ListsAll, IsIndexed}
use Rattle.stripe_table.specs.declared.descriptor.OpenDescriptor.{OpenDescriptor}
use Rattle.turn_cell.specs.ListLaws.{get_set}

-- another word stands at w: what is listed there stays where the word has its bit, and so
-- does what is listed in other words
listed_set : (ws : List ℕ) (w y k p : ℕ) → w < length ws
    → (word_of k p ≡ w → bit_at (get_or ws w 0) (p % 64) ≡ 1 → bit_at y (p % 64) ≡ 1)
    → IsListed ws k p → IsListed (set ws w y) k p
listed_set ws w y k p lt h m = ⊎_elim
    (λ (t : (word_of k p == w) ≡ true). let e : word_of k p ≡ w = eqb-true (word_of k p) w t in
    ap (λ (n : ℕ). bit_at (get_or (set ws w y) n 0) (p % 64)) e
    ∙ (ap (λ (n : ℕ). bit_at n (p % 64)) (get_or-set_same ws w y 0 lt)
    ∙ h e (ap (λ (n : ℕ). bit_at (get_or ws n 0) (p % 64)) (sym e) ∙ m)))
    (λ (t : (word_of k p == w) ≡ false). let ne : word_of k p ≢ w =
    λ e. both_ways (word_of k p == w) t (eq-eqb (word_of k p) w e) in
    ap (λ (n : ℕ). bit_at n (p % 64)) (get_or-set_other ws w (word_of k p) y 0 ne) ∙ m)
    (cases_Bool (word_of k p == w))

-- two places of one word have bits of their own
same_place : (a b p q : ℕ) → p < 128 → q < 128 → a * 2 + p / 64 ≡ b * 2 + q / 64 → p % 64 ≡ q % 64 → p ≡ q
same_place a b p q low low' e bit = omega arith

module _ (ws now : List ℕ) (w x y key place : ℕ) (is : ws ≡ now) (w_is : w ≡ word_of key place)
    (lt : w < length ws) (x_is : get_or ws w 0 ≡ x) where
  -- the bit of a place is set in its word
  pub added : bit_at y (place % 64) ≡ 1 → IsListed (set ws w y) key place
  added one =
      ap (λ (n : ℕ). bit_at (get_or (set ws w y) n 0) (place % 64)) (sym w_is)
      ∙ (ap (λ (n : ℕ). bit_at n (place % 64)) (get_or-set_same ws w y 0 lt) ∙ one)

  pub added_kept : bit_at y (place % 64) ≡ 1 → ((i : ℕ) → i ≢ place % 64 → bit_at y i ≡ bit_at x i)
      → (k p : ℕ) → IsListed now k p → IsListed (set ws w y) k p
  added_kept one others k p m = listed_set ws w y k p lt (λ e h. ⊎_elim
      (λ (t : (p % 64 == place % 64) ≡ true). ap (bit_at y) (eqb-true (p % 64) (place % 64) t) ∙ one)
      (λ (t : (p % 64 == place % 64) ≡ false).
      others (p % 64) (λ e. both_ways (p % 64 == place % 64) t (eq-eqb (p % 64) (place % 64) e))
      ∙ (ap (λ (n : ℕ). bit_at n (p % 64)) (sym x_is) ∙ h))
      (cases_Bool (p % 64 == place % 64))) (subst (λ (l : List ℕ). IsListed l k p) (sym is) m)

  -- the bit of a place is cleared in its word
  pub removed : place < 128 → ((i : ℕ) → i < 64 → i ≢ place % 64 → bit_at y i ≡ bit_at x i)
      → KeepsOthers place now (set ws w y)
  removed low others k p low' ne m =
      listed_set ws w y k p lt (λ e h. others (p % 64) (omega arith)
      (λ b. ne (same_place (k / 32 % 256) (key / 32 % 256) p place low' low (e ∙ w_is) b))
      ∙ (ap (λ (n : ℕ). bit_at n (p % 64)) (sym x_is) ∙ h))
      (subst (λ (l : List ℕ). IsListed l k p) (sym is) m)

-- what passes among one more passes among those before it, or is it
pub any_more : {A : Type 0} (f : A → Bool) (xs : List A) (i j : ℕ) (x : A) → j ≡ suc i
    → slice_get xs i ≡ Some x → list_any f (take j xs) ≡ true → (list_any f (take i xs) ≡ true) ⊎ (f x ≡ true)
any_more f xs i j x is at h = go xs i at (subst (λ (n : ℕ). list_any f (take n xs) ≡ true) is h)
  where
    go : (xs : List _) (i : ℕ) → slice_get xs i ≡ Some x → list_any f (take (suc i) xs) ≡ true
        → (list_any f (take i xs) ≡ true) ⊎ (f x ≡ true)
    go [] i at h = absurd (none-some x at)
    go (y ∷ ys) zero at h =
        inr (⊎_elim (λ (t : f y ≡ true). ap f (sym (same_Some y x at)) ∙ t)
        (λ (t : false ≡ true). absurd (both_ways false refl t)) (or_cases (f y) false h))
    go (y ∷ ys) (suc i) at h = ⊎_elim
        (λ (t : f y ≡ true). inl (or_left (f y) (list_any f (take i ys)) t))
        (λ (t : list_any f (take (suc i) ys) ≡ true). ⊎_elim (λ (u : list_any f (take i ys) ≡ true).
        inl (or_right (f y) (list_any f (take i ys)) u)) inr (go ys i at t))
        (or_cases (f y) (list_any f (take (suc i) ys)) h)

pub any_all : {A : Type 0} (f : A → Bool) (xs : List A) (n : ℕ) → length xs ≤ n → list_any f xs ≡ true
    → list_any f (take n xs) ≡ true
any_all f [] n le h = absurd (both_ways false refl h)
any_all f (x ∷ xs) zero le h = absurd (omega arith)
any_all f (x ∷ xs) (suc n) le h = ⊎_elim
    (λ (t : f x ≡ true). or_left (f x) (list_any f (take n xs)) t)
    (λ (t : list_any f xs ≡ true). or_right (f x) (list_any f (take n xs)) (any_all f xs n (omega arith) t))
    (or_cases (f x) (list_any f xs) h)

pub any_last : {A : Type 0} (f : A → Bool) (xs : List A) (x : A) → list_any f (xs ++ x ∷ []) ≡ true
    → (list_any f xs ≡ true) ⊎ (f x ≡ true)
any_last f [] x h =
    ⊎_elim (λ (t : f x ≡ true). inr t) (λ (t : false ≡ true). absurd (both_ways false refl t))
    (or_cases (f x) false h)
any_last f (y ∷ ys) x h = ⊎_elim
    (λ (t : f y ≡ true). inl (or_left (f y) (list_any f ys) t))
    (λ (t : list_any f (ys ++ x ∷ []) ≡ true).
    ⊎_elim (λ (u : list_any f ys ≡ true). inl (or_right (f y) (list_any f ys) u)) inr (any_last f ys x t))
    (or_cases (f y) (list_any f (ys ++ x ∷ [])) h)

pub any_filtered : {A : Type 0} (f p : A → Bool) (xs : List A) → list_any f (filter p xs) ≡ true
    → list_any f xs ≡ true
any_filtered f p xs h = let a = some_in f (filter p xs) h in in_some f a.0 xs (in_filter p a.0 xs a.1).0 a.2

pub if_none : {A P Q : Type 0} (x : Option A) → (P → Q) → IfNone x P → IfNone x Q
if_none None f p = f p
if_none (Some x) f p = tt

module _ {T : Type 0} where
  -- the table changed at one place, and so did the index
  pub indexed_set : (ws ws' : List ℕ) (table : List (Option (OpenDescriptor T)))
      (place : ℕ) (d : Option (OpenDescriptor T))
      → length table ≡ 128 → IsIndexed ws table → KeepsOthers place ws ws'
      → ((x : OpenDescriptor T) → d ≡ Some x → ListsAll ws' place x.waits)
      → IsIndexed ws' (set table place d)
  indexed_set ws ws' table place d many r others here i x at k h = ⊎_elim
      (λ (t : (i ≡ place) × (d ≡ Some x)). subst (λ (n : ℕ). IsListed ws' k n) (sym t.0) (here x t.1 k h))
      (λ (t : (i ≢ place) × (slice_get table i ≡ Some (Some x))). let low =
      slice_get_within table i (Some x) t.1 in others k i (omega arith) t.0 (r i x t.1 k h))
      (get_set table place i d (Some x) at)

  -- what waits there is what waited
  pub indexed_kept : (ws : List ℕ) (table : List (Option (OpenDescriptor T)))
      (place : ℕ) (d d' : OpenDescriptor T)
      → length table ≡ 128 → IsIndexed ws table → slice_get table place ≡ Some (Some d)
      → d'.waits ≡ d.waits → IsIndexed ws (set table place (Some d'))
  indexed_kept ws table place d d' many r at waits =
      indexed_set ws ws table place (Some d') many r (λ k p low ne m. m)
      (λ x is k h. r place d at k (ap (list_any (waits_as k)) (sym waits)
      ∙ (ap (λ (z : OpenDescriptor T). list_any (waits_as k) z.waits) (same_Some d' x is) ∙ h)))

  -- what waits at none of the first 64 places and at none of the others waits nowhere
  pub nowhere : (table : List (Option (OpenDescriptor T))) (key : ℕ) → length table ≡ 128
      → ((i : ℕ) (d : OpenDescriptor T) → i / 64 ≡ 0 → slice_get table i ≡ Some (Some d)
      → list_any (waits_as key) d.waits ≡ false)
      → ((i : ℕ) (d : OpenDescriptor T) → i / 64 ≡ 1
      → slice_get table i ≡ Some (Some d) → list_any (waits_as key) d.waits ≡ false)
      → (i : ℕ) (d : OpenDescriptor T) → slice_get table i ≡ Some (Some d)
      → list_any (waits_as key) d.waits ≡ false
  nowhere table key many low high i d at = let lt = slice_get_within table i (Some d) at in ⊎_elim
      (λ (t : (i / 64 == 0) ≡ true). low i d (eqb-true (i / 64) 0 t) at)
      (λ (t : (i / 64 == 0) ≡ false). let ne : i / 64 ≢ 0 =
      λ e. both_ways (i / 64 == 0) t (eq-eqb (i / 64) 0 e) in high i d (omega arith) at)
      (cases_Bool (i / 64 == 0))
