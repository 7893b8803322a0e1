-- Sums over all stripes, and over all passes that were brought level.
use Rattle.std.proofs.Common.{◌≡◌, ℕ, zero, suc, ◌+◌, ◌<◌, List, [], ◌∷◌, map, length, All, sym, refl, ap}
use Rattle.std.proofs.Common.{◌∙◌, subst, arith}
use Rattle.std.specs.Prelude.{Option, Some, None, slice_get}
use Rattle.std.proofs.lemmas.Option.{get_or_from_slice_get, slice_get_within}
use Rattle.reg_keys.specs.declared.entry.Entry.{Entry}
use Rattle.reg_keys.specs.Tests.{total}
use Rattle.reg_keys.specs.Promises.{weight}
use Rattle.reg_keys.specs.AllStripes.{sum_below}
use Rattle.reg_keys.specs.Laws.{weight-past_of}
use Rattle.turn_cell.specs.declared.view.View.{View}
use Rattle.turn_cell.specs.Weights.{weigh}
use Rattle.turn_cell.specs.History.{Log}
use Rattle.turn_cell.specs.View.{own_entries}
use Rattle.turn_cell.specs.ListLaws.{weigh_sum, weigh_none}
use Rattle.level.specs.Leveling.{IsLevel}
use Rattle.event_mgr.specs.Stripes.{past_in}
use Rattle.event_mgr.specs.Manager.{MgrView, IsLawful, own_weight, number_weight, view_by, stripe_view}
use Rattle.event_mgr.specs.Manager.{seen_by, seen_in}
use Rattle.event_mgr.specs.Level.{AreLevel, AddUp}
use Rattle.event_mgr.specs.declared.numbers.NumbersEntry.{NumbersEntry}
use Rattle.event_mgr.proofs.Seen.{legal_seen}

-- a weight of the past is the weight of the log
pub weight-past_in : (f : Entry → ℕ) (log : Log Entry)
    → weight f (past_in log) ≡ weigh (λ (e : ℕ × Entry). f e.1) log
weight-past_in f log = weight-past_of f (map (λ (e : ℕ × Entry). e.1) log) ∙ over log
  where
    over : (log : Log Entry)
        → total f (map (λ (e : ℕ × Entry). e.1) log) ≡ weigh (λ (e : ℕ × Entry). f e.1) log
    over [] = refl
    over (e ∷ es) = let r = over es in omega arith

-- ---- sums over the numbers below another

sum_same : (n : ℕ) (g h : ℕ → ℕ) → ((s : ℕ) → s < n → g s ≡ h s) → sum_below n g ≡ sum_below n h
sum_same zero g h same = refl
sum_same (suc n) g h same =
    let r = sum_same n g h (λ s lt. same s (omega arith)) in
    let e = same n (omega arith) in
    omega arith

-- the first number's part apart
sum_front : (n : ℕ) (g : ℕ → ℕ) → sum_below (suc n) g ≡ g zero + sum_below n (λ s. g (suc s))
sum_front zero g = refl
sum_front (suc n) g = let r = sum_front n g in omega arith

-- items of a list, place by place
module _ {A : Type 0} (f : Option A → ℕ) where
  weigh_places : (xs : List A) → weigh (λ x. f (Some x)) xs ≡ sum_below (length xs) (λ s. f (slice_get xs s))
  weigh_places [] = refl
  weigh_places (x ∷ xs) =
      let r = weigh_places xs in
      let e = sum_front (length xs) (λ s. f (slice_get (x ∷ xs) s)) in
      omega arith

-- sums over a list and over numbers, in either order
sums_swap : {A : Type 0} (n : ℕ) (g : A → ℕ → ℕ) (xs : List A)
    → weigh (λ x. sum_below n (g x)) xs ≡ sum_below n (λ s. weigh (λ x. g x s) xs)
sums_swap zero g xs = weigh_none xs
sums_swap (suc n) g xs =
    let r = sums_swap n g xs in
    let e = weigh_sum (λ x. g x n) (λ x. sum_below n (g x)) xs in
    omega arith

weigh_alike : {A : Type 0} (f g : A → ℕ) (xs : List A)
    → ((k : ℕ) (x : A) → slice_get xs k ≡ Some x → f x ≡ g x) → weigh f xs ≡ weigh g xs
weigh_alike f g [] same = refl
weigh_alike f g (x ∷ xs) same =
    let e = same zero x refl in
    let r = weigh_alike f g xs (λ k y at. same (suc k) y at) in
    omega arith

weigh_mapped : {A B : Type 0} (f : A → B) (g : B → ℕ) (xs : List A)
    → weigh g (map f xs) ≡ weigh (λ x. g (f x)) xs
weigh_mapped f g [] = refl
weigh_mapped f g (x ∷ xs) = let r = weigh_mapped f g xs in omega arith

-- ---- one pass

-- what was seen of a stripe is what the view of it has seen
pub seen_view : (s : ℕ) (v : MgrView) → seen_in s v ≡ (stripe_view s v).seen
seen_view s v = by_place (slice_get v.stripes s)
  where
    by_place : (o : Option (View Entry)) → seen_by o ≡ (view_by o).seen
    by_place None = refl
    by_place (Some x) = refl

abbrev own_weighs : (Entry → ℕ) → View Entry → ℕ
own_weighs f x = weigh (λ (e : ℕ × Entry). f e.1) (own_entries x)

own_by_stripe : (f : Entry → ℕ) (v : MgrView) → IsLawful v
    → own_weight f v ≡ sum_below 32 (λ s. own_weighs f (stripe_view s v))
own_by_stripe f v l =
    weigh_places (λ (o : Option (View Entry)). own_weighs f (view_by o)) v.stripes
    ∙ ap (λ (n : ℕ). sum_below n (λ s. own_weighs f (stripe_view s v))) l.many

-- ---- all passes

-- what the first of several passes that are level has seen is the history
level_log : {E : Type 0} (v : View E) (vs : List (View E)) → (l : IsLevel (v ∷ vs)) → v.seen ≡ l.log
level_log v vs l = l.saw zero v (omega arith)

module _ {A : Type 0} (known : A → MgrView) (x : A) (xs : List A)
    (lawful : All (λ y. IsLawful (known y)) (x ∷ xs)) (level : AreLevel known (x ∷ xs)) where
  lawful_at : (k : ℕ) (y : A) → slice_get (x ∷ xs) k ≡ Some y → IsLawful (known y)
  lawful_at k y at =
      subst (λ (z : A). IsLawful (known z)) (get_or_from_slice_get (x ∷ xs) k y y at)
      (lawful k y (slice_get_within (x ∷ xs) k y at))

  first_lawful : IsLawful (known x)
  first_lawful = lawful_at zero x refl

  -- of one stripe
  stripe_adds_up : (f : Entry → ℕ) (s : ℕ) → s < 32
      → weigh (λ y. own_weighs f (stripe_view s (known y))) (x ∷ xs)
      ≡ weight f (past_in (seen_in s (known x)))
  stripe_adds_up f s low =
      let g : ℕ × Entry → ℕ = λ e. f e.1 in
      let view : A → View Entry = λ y. stripe_view s (known y) in
      let l = level.stripes s low in
      sym (weigh_mapped view (own_weighs f) (x ∷ xs))
      ∙ (l.sums g ∙ (ap (weigh g) (sym (level_log (view x) (map view xs) l) ∙ sym (seen_view s (known x)))
      ∙ sym (weight-past_in f (seen_in s (known x)))))

  entries_add_up : (f : Entry → ℕ) → weigh (λ y. own_weight f (known y)) (x ∷ xs)
      ≡ sum_below 32 (λ s. weight f (past_in (seen_in s (known x))))
  entries_add_up f =
      let g : A → ℕ → ℕ = λ y s. own_weighs f (stripe_view s (known y)) in
      weigh_alike (λ y. own_weight f (known y)) (λ y. sum_below 32 (g y)) (x ∷ xs)
      (λ k y at. own_by_stripe f (known y) (lawful_at k y at))
      ∙ (sums_swap 32 g (x ∷ xs)
      ∙ sum_same 32 (λ s. weigh (λ y. g y s) (x ∷ xs)) (λ s. weight f (past_in (seen_in s (known x))))
      (stripe_adds_up f))

  draws_add_up : (f : NumbersEntry → ℕ)
      → weigh (λ y. number_weight f (known y)) (x ∷ xs) ≡ weigh (λ e. f e.1) (known x).numbers.seen
  draws_add_up f =
      let g : ℕ × NumbersEntry → ℕ = λ e. f e.1 in
      let view : A → View NumbersEntry = λ y. (known y).numbers in
      sym (weigh_mapped view (λ v. weigh g (own_entries v)) (x ∷ xs))
      ∙ (level.numbers.sums g ∙ ap (weigh g) (sym (level_log (view x) (map view xs) level.numbers)))

  pub passes_add_up : AddUp known x xs
  passes_add_up = record {
    legal = λ s low. legal_seen (known x) first_lawful s;
    entries = entries_add_up;
    right = first_lawful.numbers;
    draws = draws_add_up;
  }
