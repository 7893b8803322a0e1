-- Inner: laws that crates above cite: of a history and its past, of sums and members of a list, and
-- of what a reply's keys take out.
use Rattle.std.proofs.Common.{◌≡◌, ℕ, ◌+◌, ◌≤◌, List, [], ◌∷◌, ◌++◌, map, true, false, Bool, refl, sym, ap}
use Rattle.std.proofs.Common.{◌∙◌, subst, inl, inr, ⊎_elim, arith}
use Rattle.std.specs.Prelude.{filter, not, cond, reverse}
use Rattle.std.specs.List.{list_any}
use Rattle.std.proofs.lemmas.Bool.{both_ways, eq-eqb, false_from_ne_true}
use Rattle.std.proofs.lemmas.List.{reverse-append, reverse-reverse}
use Rattle.reg_keys.specs.declared.registration.Key.{Key}
use Rattle.reg_keys.specs.declared.entry.Entry.{Entry}
use Rattle.reg_keys.specs.Tests.{same_key, one_if, how_many, IsIn, total}
use Rattle.reg_keys.specs.Histories.{Registered, past_of, without}
use Rattle.reg_keys.specs.Promises.{weight}
use Rattle.reg_keys.specs.ListLaws.{same_key_is, same_key_self, many_some, in_kept, in_filter, in_some}
use Rattle.reg_keys.specs.ListLaws.{some_in, in_map, map_in}

-- a further entry is the latest of the past
pub past_of-more : (h : List Entry) (e : Entry) → past_of (h ++ e ∷ []) ≡ e ∷ past_of h
past_of-more h e = reverse-append h (e ∷ [])

-- further entries are the later ones of the past
pub past_of-append : (h more : List Entry) → past_of (h ++ more) ≡ past_of more ++ past_of h
past_of-append h more = reverse-append h more

module _ {A : Type 0} where
  -- a sum over two lists is the sum of the sums
  pub total_append : (f : A → ℕ) (xs ys : List A) → total f (xs ++ ys) ≡ total f xs + total f ys
  total_append f [] ys = omega arith
  total_append f (x ∷ xs) ys = let r = total_append f xs ys in omega arith

  -- a sum doesn't ask for the order
  pub total_reverse : (f : A → ℕ) (xs : List A) → total f (reverse xs) ≡ total f xs
  total_reverse f [] = refl
  total_reverse f (x ∷ xs) =
      let r = total_reverse f xs in
      let a = total_append f (reverse xs) (x ∷ []) in
      let b = ap (total f) (reverse-append (x ∷ []) xs) in
      omega arith

  -- what is in the first of two lists is in both together
  pub in_left : (x : A) (xs ys : List A) → IsIn x xs → IsIn x (xs ++ ys)
  in_left x [] ys i = absurd i
  in_left x (z ∷ xs) ys i = ⊎_elim (λ e. inl e) (λ r. inr (in_left x xs ys r)) i

  -- and so is what is in the second
  pub in_right : (x : A) (xs ys : List A) → IsIn x ys → IsIn x (xs ++ ys)
  in_right x [] ys i = i
  in_right x (z ∷ xs) ys i = inr (in_right x xs ys i)

  -- a turned list has the same elements
  pub in_reverse : (x : A) (xs : List A) → IsIn x xs → IsIn x (reverse xs)
  in_reverse x [] i = absurd i
  in_reverse x (z ∷ xs) i =
      subst (IsIn x) (sym (reverse-append (z ∷ []) xs))
      (⊎_elim (λ e. in_right x (reverse xs) (z ∷ []) (inl e))
      (λ r. in_left x (reverse xs) (z ∷ []) (in_reverse x xs r)) i)

-- the past weighs what the history weighs
pub weight-past_of : (f : Entry → ℕ) (h : List Entry) → weight f (past_of h) ≡ weight f h
weight-past_of f h = total_reverse f h

-- an entry of the history is one of its past
pub in_past : (e : Entry) (h : List Entry) → IsIn e h → IsIn e (past_of h)
in_past e h i = in_reverse e h i

-- and the other way
pub in_history : (e : Entry) (h : List Entry) → IsIn e (past_of h) → IsIn e h
in_history e h i = subst (IsIn e) (reverse-reverse h) (in_reverse e (reverse h) i)

-- whether it is the registration of this key
abbrev pub at_key : Key → Registered → Bool
at_key k w = same_key w.key k

module _ {A : Type 0} where
  -- two elements that pass a test which at most one passes are one
  pub at_most_one : (f : A → Bool) (xs : List A) (x y : A) → how_many f xs ≤ 1 → IsIn x xs
      → IsIn y xs → f x ≡ true → f y ≡ true → x ≡ y
  at_most_one f [] x y le i j a b = absurd i
  at_most_one f (z ∷ zs) x y le i j a b = ⊎_elim
      (λ (e : x ≡ z). ⊎_elim (λ (d : y ≡ z). e ∙ sym d) (λ r.
      let one : one_if (f z) ≡ 1 = ap one_if (ap f (sym e) ∙ a) in
      let more = many_some f zs (in_some f y zs r b) in
      absurd (omega arith)) j)
      (λ r. ⊎_elim (λ (d : y ≡ z).
      let one : one_if (f z) ≡ 1 = ap one_if (ap f (sym d) ∙ b) in
      let more = many_some f zs (in_some f x zs r a) in
      absurd (omega arith)) (λ t. at_most_one f zs x y (omega arith) r t a b) j)
      i

  -- two tests that agree on the elements of a list keep the same ones
  pub filter_same : (f g : A → Bool) (xs : List A) → ((x : A) → IsIn x xs → f x ≡ g x)
      → filter f xs ≡ filter g xs
  filter_same f g [] h = refl
  filter_same f g (x ∷ xs) h =
      let r = filter_same f g xs (λ y i. h y (inr i)) in
      ap (λ b. cond b (x ∷ filter f xs) (filter f xs)) (h x (inl refl)) ∙ ap (λ l. cond (g x) (x ∷ l) l) r

-- a registration is taken out by the keys of those that pass a test exactly where it passes itself
module _ {B : Type 0} (m : B → Key) (b : Registered → B) (key_is : (w : Registered) → m (b w) ≡ w.key)
    (p : Registered → Bool) (ws : List Registered) (apart : (k : Key) → how_many (at_key k) ws ≤ 1) where
  taken_where : (w : Registered) → IsIn w ws
      → list_any (λ k. same_key k w.key) (map m (map b (filter p ws))) ≡ p w
  taken_where w i = by_case (p w) refl
    where
      by_case : (t : Bool) → p w ≡ t → list_any (λ k. same_key k w.key) (map m (map b (filter p ws))) ≡ t
      by_case true is =
          in_some (λ k. same_key k w.key) (m (b w)) (map m (map b (filter p ws)))
          (in_map m (b w) (map b (filter p ws)) (in_map b w (filter p ws) (in_kept p w ws i is)))
          (ap (λ k. same_key k w.key) (key_is w) ∙ same_key_self w.key)
      by_case false is =
          false_from_ne_true (list_any (λ k. same_key k w.key) (map m (map b (filter p ws)))) (λ h.
          let a = some_in (λ k. same_key k w.key) (map m (map b (filter p ws))) h in
          let x = map_in m a.0 (map b (filter p ws)) a.1 in
          let y = map_in b x.0 (filter p ws) x.1 in
          let z = in_filter p y.0 ws y.1 in
          let k : y.0.key ≡ w.key =
          sym (key_is y.0) ∙ (ap m (sym y.2) ∙ (sym x.2 ∙ same_key_is a.0 w.key a.2)) in
          let one : y.0 ≡ w = at_most_one (at_key w.key) ws y.0 w (apart w.key) z.0 i
          (eq-eqb y.0.key.number w.key.number (ap (λ (l : Key). l.number) k)) (same_key_self w.key) in
          both_ways (p w) is (ap p (sym one) ∙ z.1))

  -- what is left is what doesn't pass the test
  pub left_by_test : without (map m (map b (filter p ws))) ws ≡ filter (λ w. not (p w)) ws
  left_by_test =
      filter_same (λ (w : Registered). not (list_any (λ k. same_key k w.key) (map m (map b (filter p ws)))))
      (λ w. not (p w)) ws (λ w i. ap not (taken_where w i))
