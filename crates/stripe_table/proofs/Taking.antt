-- Registrations and events that a call takes out of the lists.
use Rattle.std.proofs.Common.{◌≡◌, ℕ, ◌+◌, ◌≤◌, List, [], ◌∷◌, map, length, true, false, Bool, sym, refl, ap}
use Rattle.std.proofs.Common.{◌∙◌, subst, arith}
use Rattle.std.specs.Prelude.{filter, if◌then◌else◌, not, ◌||◌, ◌==◌}
use Rattle.std.specs.List.{list_any}
use Rattle.std.proofs.lemmas.Bool.{both_ways, cond-true, cond-false, eqb-true, eq-eqb, ne_eqb}
use Rattle.std.proofs.lemmas.Bool.{false_from_ne_true}
use Rattle.reg_keys.specs.declared.opening.Opening.{Opening}
use Rattle.reg_keys.specs.declared.registration.Key.{Key}
use Rattle.reg_keys.specs.Tests.{same, how_many, one_if, IsIn}
use Rattle.reg_keys.specs.Histories.{Registered, without}
use Rattle.reg_keys.specs.ListLaws.{in_map, in_filter, split_filter}
use Rattle.reg_keys.specs.Laws.{at_key, left_by_test}
use Rattle.stripe_table.specs.Ascending.{AllAbove, Ascends}
use Rattle.stripe_table.specs.Facts.{Facts, waits_at, number_of, flag_number, flag_at}
use Rattle.stripe_table.specs.Represents.{registered_of, unasked_of, FitsOpen}
use Rattle.stripe_table.specs.Flags.{flag_has, key_of}
use Rattle.stripe_table.specs.declared.descriptor.Registration.{Registration}
use Rattle.stripe_table.specs.declared.descriptor.OpenDescriptor.{OpenDescriptor}
use Rattle.stripe_table.specs.declared.flags.UnaskedFlag.{UnaskedFlag}
use Rattle.stripe_table.proofs.Naming.{same_parts}

module _ {A : Type 0} where
  pub filter_swap : (p q : A → Bool) (xs : List A) → filter p (filter q xs) ≡ filter q (filter p xs)
  filter_swap p q [] = refl
  filter_swap p q (x ∷ xs) = let r = filter_swap p q xs in by_case (p x) (q x) refl refl r
    where
      by_case : (a b : Bool) → p x ≡ a → q x ≡ b → filter p (filter q xs) ≡ filter q (filter p xs)
          → filter p (filter q (x ∷ xs)) ≡ filter q (filter p (x ∷ xs))
      by_case true true a b r =
          ap (filter p) (cond-true (q x) (x ∷ filter q xs) (filter q xs) b)
          ∙ (cond-true (p x) (x ∷ filter p (filter q xs)) (filter p (filter q xs)) a ∙ (ap (λ l. x ∷ l) r
          ∙ (sym (cond-true (q x) (x ∷ filter q (filter p xs)) (filter q (filter p xs)) b)
          ∙ ap (filter q) (sym (cond-true (p x) (x ∷ filter p xs) (filter p xs) a)))))
      by_case true false a b r =
          ap (filter p) (cond-false (q x) (x ∷ filter q xs) (filter q xs) b)
          ∙ (r ∙ (sym (cond-false (q x) (x ∷ filter q (filter p xs)) (filter q (filter p xs)) b)
          ∙ ap (filter q) (sym (cond-true (p x) (x ∷ filter p xs) (filter p xs) a))))
      by_case false true a b r =
          ap (filter p) (cond-true (q x) (x ∷ filter q xs) (filter q xs) b)
          ∙ (cond-false (p x) (x ∷ filter p (filter q xs)) (filter p (filter q xs)) a
          ∙ (r ∙ ap (filter q) (sym (cond-false (p x) (x ∷ filter p xs) (filter p xs) a))))
      by_case false false a b r =
          ap (filter p) (cond-false (q x) (x ∷ filter q xs) (filter q xs) b)
          ∙ (r ∙ ap (filter q) (sym (cond-false (p x) (x ∷ filter p xs) (filter p xs) a)))

  pub filter_agrees : (f g : A → Bool) → ((x : A) → f x ≡ g x) → (xs : List A) → filter f xs ≡ filter g xs
  filter_agrees f g e [] = refl
  filter_agrees f g e (x ∷ xs) =
      ap (λ b. if b then x ∷ filter f xs else filter f xs) (e x)
      ∙ ap (λ l. if g x then x ∷ l else l) (filter_agrees f g e xs)

  -- a test that holds of kept elements alone keeps of the kept ones the same
  pub filter_there : (f p : A → Bool) → ((x : A) → f x ≡ true → p x ≡ true) → (xs : List A)
      → filter f xs ≡ filter f (filter p xs)
  filter_there f p le [] = refl
  filter_there f p le (x ∷ xs) =
      let r = filter_there f p le xs in
      split_filter p x xs (λ l. filter f (x ∷ xs) ≡ filter f l) (λ _. ap (λ l. if f x then x ∷ l else l) r)
      (λ gone. cond-false (f x) (x ∷ filter f xs) (filter f xs)
      (false_from_ne_true (f x) (λ h. both_ways (p x) gone (le x h))) ∙ r)

  -- what is taken elsewhere leaves what is here
  pub filter_spared : (q f : A → Bool) → ((x : A) → q x ≡ true → f x ≡ false) → (xs : List A)
      → filter q (filter (λ x. not (f x)) xs) ≡ filter q xs
  filter_spared q f off [] = refl
  filter_spared q f off (x ∷ xs) =
      let r = filter_spared q f off xs in
      split_filter (λ y. not (f y)) x xs (λ l. filter q l ≡ filter q (x ∷ xs))
      (λ _. ap (λ l. if q x then x ∷ l else l) r)
      (λ gone. r ∙ sym (cond-false (q x) (x ∷ filter q xs) (filter q xs)
      (false_from_ne_true (q x) (λ h. both_ways (not (f x)) gone (ap not (off x h))))))

  pub filter_all : (f : A → Bool) → ((x : A) → f x ≡ true) → (xs : List A) → filter f xs ≡ xs
  filter_all f e [] = refl
  filter_all f e (x ∷ xs) =
      cond-true (f x) (x ∷ filter f xs) (filter f xs) (e x) ∙ ap (λ l. x ∷ l) (filter_all f e xs)

  pub filter_none : (f : A → Bool) → ((x : A) → f x ≡ false) → (xs : List A) → filter f xs ≡ []
  filter_none f e [] = refl
  filter_none f e (x ∷ xs) = cond-false (f x) (x ∷ filter f xs) (filter f xs) (e x) ∙ filter_none f e xs

  -- those that are left, and the marked ones among those that were taken, are no more than all
  pub split_room : (t g : A → Bool) (xs : List A)
      → length (filter (λ x. not (t x)) xs) + how_many g (filter t xs) ≤ length xs
  split_room t g [] = omega arith
  split_room t g (x ∷ xs) = let r = split_room t g xs in by_case (t x) (g x) refl refl r
    where
      by_case : (a b : Bool) → t x ≡ a → g x ≡ b
          → length (filter (λ x. not (t x)) xs) + how_many g (filter t xs) ≤ length xs
          → length (filter (λ x. not (t x)) (x ∷ xs)) + how_many g (filter t (x ∷ xs)) ≤ length (x ∷ xs)
      by_case true b e h r =
          let left : length (filter (λ x. not (t x)) (x ∷ xs))
          ≡ length (filter (λ x. not (t x)) xs) = ap length
          (cond-false (not (t x)) (x ∷ filter (λ x. not (t x)) xs) (filter (λ x. not (t x)) xs) (ap not e)) in
          let taken : how_many g (filter t (x ∷ xs)) ≡ one_if (g x) + how_many g (filter t xs) =
          ap (how_many g) (cond-true (t x) (x ∷ filter t xs) (filter t xs) e) in
          let one : one_if (g x) ≤ 1 = most (g x) in
          omega arith
        where
          most : (c : Bool) → one_if c ≤ 1
          most true = omega arith
          most false = omega arith
      by_case false b e h r =
          let left : length (filter (λ x. not (t x)) (x ∷ xs))
          ≡ length (x ∷ filter (λ x. not (t x)) xs) = ap length
          (cond-true (not (t x)) (x ∷ filter (λ x. not (t x)) xs) (filter (λ x. not (t x)) xs) (ap not e)) in
          let taken : how_many g (filter t (x ∷ xs)) ≡ how_many g (filter t xs) =
          ap (how_many g) (cond-false (t x) (x ∷ filter t xs) (filter t xs) e) in
          omega arith

pub filter_map : {A B : Type 0} (f : B → Bool) (h : A → B) (xs : List A)
    → filter f (map h xs) ≡ map h (filter (λ x. f (h x)) xs)
filter_map f h [] = refl
filter_map f h (x ∷ xs) = ap (λ l. if f (h x) then h x ∷ l else l) (filter_map f h xs) ∙ by_case (f (h x))
  where
    by_case : (b : Bool)
        → (if b then h x ∷ map h (filter (λ x. f (h x)) xs) else map h (filter (λ x. f (h x)) xs))
        ≡ map h (if b then x ∷ filter (λ x. f (h x)) xs else filter (λ x. f (h x)) xs)
    by_case true = refl
    by_case false = refl

pub many_mapped : {A B : Type 0} (f : B → Bool) (g : A → Bool) (h : A → B) → ((x : A) → f (h x) ≡ g x)
    → (xs : List A) → how_many f (map h xs) ≡ how_many g xs
many_mapped f g h e [] = refl
many_mapped f g h e (x ∷ xs) = λ i. one_if (e x i) + many_mapped f g h e xs i

-- no key waits twice
pub once : (ws : List Registered) → Ascends number_of ws → (k : Key) → how_many (at_key k) ws ≤ 1
once [] a k = omega arith
once (w ∷ ws) a k = let r = once ws a.1 k in by_case (at_key k w) refl r
  where
    none : (xs : List Registered) → AllAbove number_of k.number xs → how_many (at_key k) xs ≡ 0
    none [] a = refl
    none (x ∷ xs) a =
        let lt = a.0 in
        let r = none xs a.1 in
        let z : one_if (at_key k x) ≡ 0 = ap one_if (ne_eqb x.key.number k.number (λ e. omega arith)) in
        omega arith

    by_case : (b : Bool) → at_key k w ≡ b → how_many (at_key k) ws ≤ 1 → how_many (at_key k) (w ∷ ws) ≤ 1
    by_case true e r =
        let one : one_if (at_key k w) ≡ 1 = ap one_if e in
        let rest = none ws
        (subst (λ (n : ℕ). AllAbove number_of n ws) (eqb-true w.key.number k.number e) a.0) in
        omega arith
    by_case false e r = let zero' : one_if (at_key k w) ≡ 0 = ap one_if e in omega arith

-- what is taken out by its keys is what passed the test
pub left_is : {B : Type 0} (m : B → Key) (b : Registered → B) → ((w : Registered) → m (b w) ≡ w.key)
    → (p : Registered → Bool) (ws : List Registered) → Ascends number_of ws
    → without (map m (map b (filter p ws))) ws ≡ filter (λ w. not (p w)) ws
left_is m b key_is p ws a = left_by_test m b key_is p ws (once ws a)

pub ascends_flags : (fl : List UnaskedFlag) → Ascends flag_number (map unasked_of fl) → Ascends key_of fl
ascends_flags [] a = tt
ascends_flags (f ∷ fl) a = (above f.key fl a.0, ascends_flags fl a.1)
  where
    above : (n : ℕ) (gl : List UnaskedFlag) → AllAbove flag_number n (map unasked_of gl)
        → AllAbove key_of n gl
    above n [] a = tt
    above n (g ∷ gl) a = (a.0, above n gl a.1)

pub any_flag : (k : ℕ) (fl : List UnaskedFlag)
    → list_any (flag_at k) (map unasked_of fl) ≡ list_any (flag_has k) fl
any_flag k [] = refl
any_flag k (f ∷ fl) = ap (λ b. (f.key == k) || b) (any_flag k fl)

module _ {T : Type 0} (tag : T → List (List ℕ)) (f : Facts) (o : Opening) (d : OpenDescriptor T)
    (fit : FitsOpen tag f o d) where
  -- what waits at a descriptor waits
  pub waits_in : (r : Registration T) → IsIn r d.waits → IsIn (registered_of tag o r) f.waits
  waits_in r i =
      (in_filter (waits_at o.fd) (registered_of tag o r) f.waits
      (subst (λ (l : List Registered). IsIn (registered_of tag o r) l) (sym fit.waits)
      (in_map (registered_of tag o) r d.waits i))).0

  -- a test that passes registrations of the opening alone takes those at its descriptor
  pub taken_here : (p : Registered → Bool) (t : Registration T → Bool)
      → ((w : Registered) → p w ≡ true → same o w.opening ≡ true)
      → ((r : Registration T) → p (registered_of tag o r) ≡ t r)
      → filter p f.waits ≡ map (registered_of tag o) (filter t d.waits)
  taken_here p t own agrees =
      filter_there p (waits_at o.fd)
      (λ w h. eq-eqb w.opening.fd o.fd (sym (same_parts o w.opening (own w h)).1)) f.waits
      ∙ (ap (filter p) fit.waits ∙ (filter_map p (registered_of tag o) d.waits
      ∙ ap (map (registered_of tag o)) (filter_agrees (λ r. p (registered_of tag o r)) t agrees d.waits)))

  -- and leaves the others there
  pub left_here : (p : Registered → Bool) (t : Registration T → Bool)
      → ((r : Registration T) → p (registered_of tag o r) ≡ t r)
      → filter (waits_at o.fd) (filter (λ w. not (p w)) f.waits)
      ≡ map (registered_of tag o) (filter (λ r. not (t r)) d.waits)
  left_here p t agrees =
      filter_swap (waits_at o.fd) (λ w. not (p w)) f.waits
      ∙ (ap (filter (λ w. not (p w))) fit.waits ∙ (filter_map (λ w. not (p w)) (registered_of tag o) d.waits
      ∙ ap (map (registered_of tag o)) (filter_agrees (λ r. not (p (registered_of tag o r)))
      (λ r. not (t r)) (λ r. ap not (agrees r)) d.waits)))
