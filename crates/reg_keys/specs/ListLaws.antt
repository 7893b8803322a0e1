-- Inner: laws that crates above cite: of tests over lists and of what is in a list, and that the tests of
-- openings, keys and directions tell what is the same.
use Rattle.std.proofs.Common.{◌≡◌, ◌+◌, ◌≤◌, ◌⊎◌, inl, inr, ⊎_elim, List, [], ◌∷◌, ◌++◌, map, true, false}
use Rattle.std.proofs.Common.{Bool, sym, refl, ap, ◌∙◌, subst, arith}
use Rattle.std.specs.Prelude.{filter, ◌==◌}
use Rattle.std.proofs.lemmas.Bool.{both_ways, or_cases, or_left, or_right, or_parts, and_parts, and_from}
use Rattle.std.proofs.lemmas.Bool.{eqb-true, eq-eqb, cases_Bool, cond_both}
use Rattle.std.specs.List.{list_any}
use Rattle.reg_keys.specs.declared.opening.Opening.{Opening}
use Rattle.reg_keys.specs.declared.registration.Key.{Key}
use Rattle.reg_keys.specs.declared.registration.Dir.{Dir}
use Rattle.reg_keys.specs.declared.registration.Dir.TheVariants.{Read, Write}
use Rattle.reg_keys.specs.Tests.{one_if, how_many, same, same_key, same_dir, IsIn}

-- what the test of openings calls the same is the same
pub same_is : (o p : Opening) → same o p ≡ true → o ≡ p
same_is o p e = let a = and_parts (o.number == p.number) (o.fd == p.fd) e in
    λ i. record { number = eqb-true o.number p.number a.0 i; fd = eqb-true o.fd p.fd a.1 i }

-- an opening is the same as itself
pub same_self : (o : Opening) → same o o ≡ true
same_self o =
    and_from (o.number == o.number) (o.fd == o.fd) (eq-eqb o.number o.number refl) (eq-eqb o.fd o.fd refl)

-- the test of openings says the same either way round
pub same_turned : (o p : Opening) → same o p ≡ true → same p o ≡ true
same_turned o p e = subst (λ q. same q o ≡ true) (same_is o p e) (same_self o)

-- what the test of keys calls the same is the same
pub same_key_is : (k l : Key) → same_key k l ≡ true → k ≡ l
same_key_is k l e = λ i. record { number = eqb-true k.number l.number e i }

-- a key is the same as itself
pub same_key_self : (k : Key) → same_key k k ≡ true
same_key_self k = eq-eqb k.number k.number refl

-- what the test of directions calls the same is the same
pub same_dir_is : (d e : Dir) → same_dir d e ≡ true → d ≡ e
same_dir_is Read Read h = refl
same_dir_is Read Write h = absurd (both_ways false refl h)
same_dir_is Write Read h = absurd (both_ways false refl h)
same_dir_is Write Write h = refl

module _ {A : Type 0} (p : A → Bool) where
  -- what holds of a filtered list, by whether its first element is kept
  pub split_filter : (x : A) (xs : List A) (Q : List A → Type 0) → (p x ≡ true → Q (x ∷ filter p xs))
      → (p x ≡ false → Q (filter p xs)) → Q (filter p (x ∷ xs))
  split_filter x xs Q kept gone = cond_both (p x) (x ∷ filter p xs) (filter p xs) Q kept gone

module _ {A : Type 0} (f : A → Bool) where
  -- two lists have as many that pass as both have
  pub many_append : (xs ys : List A) → how_many f (xs ++ ys) ≡ how_many f xs + how_many f ys
  many_append [] ys = omega arith
  many_append (x ∷ xs) ys = let r = many_append xs ys in omega arith

  -- where none passes, 0 pass
  pub many_none : (xs : List A) → list_any f xs ≡ false → how_many f xs ≡ 0
  many_none [] e = refl
  many_none (x ∷ xs) e =
      let a = or_parts (f x) (list_any f xs) e in
      let r = many_none xs a.1 in
      let b : one_if (f x) ≡ 0 = ap one_if a.0 in
      omega arith

  -- where some one passes, at least 1 passes
  pub many_some : (xs : List A) → list_any f xs ≡ true → 1 ≤ how_many f xs
  many_some [] e = absurd (both_ways false refl e)
  many_some (x ∷ xs) e =
      ⊎_elim (λ a. let b : one_if (f x) ≡ 1 = ap one_if a in omega arith) (λ a. let r =
      many_some xs a in omega arith) (or_cases (f x) (list_any f xs) e)

  -- where one of two lists together passes, it is in the one or in the other
  pub some_append : (xs ys : List A) → list_any f (xs ++ ys) ≡ true
      → (list_any f xs ≡ true) ⊎ (list_any f ys ≡ true)
  some_append [] ys e = inr e
  some_append (x ∷ xs) ys e =
      ⊎_elim (λ a. inl (or_left (f x) (list_any f xs) a))
      (λ a. ⊎_elim (λ b. inl (or_right (f x) (list_any f xs) b)) (λ b. inr b) (some_append xs ys a))
      (or_cases (f x) (list_any f (xs ++ ys)) e)

  -- a test that lets more through is passed wherever the narrower one is
  pub some_more : (g : A → Bool) → ((x : A) → f x ≡ true → g x ≡ true) → (xs : List A)
      → list_any f xs ≡ true → list_any g xs ≡ true
  some_more g le [] e = absurd (both_ways false refl e)
  some_more g le (x ∷ xs) e =
      ⊎_elim (λ a. or_left (g x) (list_any g xs) (le x a))
      (λ a. or_right (g x) (list_any g xs) (some_more g le xs a)) (or_cases (f x) (list_any f xs) e)

  module _ (p : A → Bool) where
    -- filtering leaves no more that pass
    pub many_filter_le : (xs : List A) → how_many f (filter p xs) ≤ how_many f xs
    many_filter_le [] = omega arith
    many_filter_le (x ∷ xs) =
        let r = many_filter_le xs in
        split_filter p x xs (λ l. how_many f l ≤ how_many f (x ∷ xs)) (λ _. omega arith) (λ _. omega arith)

    -- filtering by what all that pass f pass too leaves as many of them
    pub many_filter_same : ((x : A) → f x ≡ true → p x ≡ true) → (xs : List A)
        → how_many f (filter p xs) ≡ how_many f xs
    many_filter_same le [] = refl
    many_filter_same le (x ∷ xs) =
        let r = many_filter_same le xs in
        split_filter p x xs (λ l. how_many f l ≡ how_many f (x ∷ xs)) (λ _. omega arith)
        (λ gone. ⊎_elim (λ a. absurd (both_ways (p x) gone (le x a))) (λ a. let b : one_if (f x) ≡ 0 =
        ap one_if a in omega arith) (cases_Bool (f x)))

    -- filtering by what none that passes f passes leaves none of them
    pub many_filter_none : ((x : A) → f x ≡ true → p x ≡ true → ⊥) → (xs : List A)
        → how_many f (filter p xs) ≡ 0
    many_filter_none off [] = refl
    many_filter_none off (x ∷ xs) =
        let r = many_filter_none off xs in
        split_filter p x xs (λ l. how_many f l ≡ 0)
        (λ kept. ⊎_elim (λ a. absurd (off x a kept)) (λ a. let b : one_if (f x) ≡ 0 =
        ap one_if a in omega arith) (cases_Bool (f x))) (λ _. r)

    -- where one that is left passes, one of the whole list does
    pub some_filter : (xs : List A) → list_any f (filter p xs) ≡ true → list_any f xs ≡ true
    some_filter [] = λ e. e
    some_filter (x ∷ xs) = split_filter p x xs (λ l. list_any f l ≡ true → list_any f (x ∷ xs) ≡ true)
        (λ _ e. ⊎_elim (λ a. or_left (f x) (list_any f xs) a) (λ a.
        or_right (f x) (list_any f xs) (some_filter xs a)) (or_cases (f x) (list_any f (filter p xs)) e))
        (λ _ e. or_right (f x) (list_any f xs) (some_filter xs e))

    -- one that is left was there, and is kept
    pub some_filter_kept : ((x : A) → f x ≡ true → p x ≡ true → ⊥) → (xs : List A)
        → list_any f (filter p xs) ≡ true → ⊥
    some_filter_kept off [] = λ e. both_ways false refl e
    some_filter_kept off (x ∷ xs) = split_filter p x xs (λ l. list_any f l ≡ true → ⊥)
        (λ kept e. ⊎_elim (λ a. off x a kept) (λ a. some_filter_kept off xs a)
        (or_cases (f x) (list_any f (filter p xs)) e))
        (λ _ e. some_filter_kept off xs e)

module _ {A : Type 0} where
  -- what is in two lists together is in the one or in the other
  pub in_append : (x : A) (xs ys : List A) → IsIn x (xs ++ ys) → IsIn x xs ⊎ IsIn x ys
  in_append x [] ys i = inr i
  in_append x (z ∷ xs) ys i =
      ⊎_elim (λ e. inl (inl e)) (λ r. ⊎_elim (λ a. inl (inr a)) (λ b. inr b) (in_append x xs ys r)) i

  -- what is in a list of one element is that element
  pub in_one : (x y : A) → IsIn x (y ∷ []) → x ≡ y
  in_one x y i = ⊎_elim (λ e. e) (λ a. absurd a) i

  -- what is left by a filter was there, and passes
  pub in_filter : (p : A → Bool) (x : A) (xs : List A) → IsIn x (filter p xs) → IsIn x xs × (p x ≡ true)
  in_filter p x [] = λ i. absurd i
  in_filter p x (y ∷ xs) = split_filter p y xs (λ l. IsIn x l → IsIn x (y ∷ xs) × (p x ≡ true))
      (λ kept i. ⊎_elim (λ e. (inl e, ap p e ∙ kept)) (λ r. let a = in_filter p x xs r in (inr a.0, a.1)) i)
      (λ _ i. let a = in_filter p x xs i in (inr a.0, a.1))

  -- what was there and passes is left by the filter
  pub in_kept : (p : A → Bool) (x : A) (xs : List A) → IsIn x xs → p x ≡ true → IsIn x (filter p xs)
  in_kept p x [] i e = absurd i
  in_kept p x (y ∷ xs) i e = split_filter p y xs (λ l. IsIn x l)
      (λ _. ⊎_elim (λ is. inl is) (λ r. inr (in_kept p x xs r e)) i)
      (λ gone. ⊎_elim (λ is. absurd (both_ways (p x) (ap p is ∙ gone) e)) (λ r. in_kept p x xs r e) i)

  -- where an element passes, the test finds some one
  pub in_some : (f : A → Bool) (x : A) (xs : List A) → IsIn x xs → f x ≡ true → list_any f xs ≡ true
  in_some f x [] i e = absurd i
  in_some f x (y ∷ xs) i e =
      ⊎_elim (λ is. or_left (f y) (list_any f xs) (ap f (sym is) ∙ e))
      (λ r. or_right (f y) (list_any f xs) (in_some f x xs r e)) i

  -- where the test finds some one, an element passes
  pub some_in : (f : A → Bool) (xs : List A) → list_any f xs ≡ true → (x : A) × IsIn x xs × (f x ≡ true)
  some_in f [] e = absurd (both_ways false refl e)
  some_in f (y ∷ xs) e =
      ⊎_elim (λ a. (y, inl refl, a)) (λ a. let r =
      some_in f xs a in (r.0, inr r.1, r.2)) (or_cases (f y) (list_any f xs) e)

  -- where each element that passes f passes g, and some one passes f, some one passes g
  pub some_more_in : (f g : A → Bool) (xs : List A) → ((x : A) → IsIn x xs → f x ≡ true → g x ≡ true)
      → list_any f xs ≡ true → list_any g xs ≡ true
  some_more_in f g xs le e = let k = some_in f xs e in in_some g k.0 xs k.1 (le k.0 k.1 k.2)

module _ {A B : Type 0} (f : A → B) where
  -- the image of an element is in the image of the list
  pub in_map : (x : A) (xs : List A) → IsIn x xs → IsIn (f x) (map f xs)
  in_map x [] i = absurd i
  in_map x (y ∷ xs) i = ⊎_elim (λ is. inl (ap f is)) (λ r. inr (in_map x xs r)) i

  -- what is in the image of a list is the image of an element
  pub map_in : (y : B) (xs : List A) → IsIn y (map f xs) → (x : A) × IsIn x xs × (y ≡ f x)
  map_in y [] i = absurd i
  map_in y (x ∷ xs) i = ⊎_elim (λ is. (x, inl refl, is)) (λ r. let a = map_in y xs r in (a.0, inr a.1, a.2)) i
