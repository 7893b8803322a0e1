-- Lists of dispatchers, one place at a time.
use Rattle.std.proofs.Common.{◌≡◌, ℕ, zero, suc, ◌<◌, ◌≤◌, List, [], ◌∷◌, length, map, set, get_or, All}
use Rattle.std.proofs.Common.{sym, ap, ◌∙◌, subst, arith}
use Rattle.std.specs.Prelude.{slice_get, Some}
use Rattle.std.proofs.lemmas.Option.{none-some, same_Some}
use Rattle.std.proofs.lemmas.List.Elements.{All-cons, All-nil, All-head, All-tail}
use Rattle.turn_cell.specs.Weights.{weigh}
use Rattle.dispatcher.specs.Stripes.{Each}
use Rattle.level.specs.ListLaws.{get_map, set_again}
use Rattle.std.proofs.lemmas.List.{map-set}

module _ {A V : Type 0} (R : V → V → Type 0) (known : A → V) where
  -- what holds at each place holds of the rows
  pub each_place : (xs ys : List A) → length ys ≡ length xs
      → ((i : ℕ) (d : A) → i < length xs → R (known (get_or xs i d)) (known (get_or ys i d)))
      → Each R (map known xs) (map known ys)
  each_place [] [] many at = tt
  each_place [] (y ∷ ys) many at = absurd (omega arith)
  each_place (x ∷ xs) [] many at = absurd (omega arith)
  each_place (x ∷ xs) (y ∷ ys) many at =
      (at zero x (omega arith), each_place xs ys (omega arith) (λ i d lt. at (suc i) d (omega arith)))

  all_same : ((v : V) → R v v) → (xs : List A) → Each R (map known xs) (map known xs)
  all_same same [] = tt
  all_same same (x ∷ xs) = (same (known x), all_same same xs)

  -- one row has changed so
  pub each_one : ((v : V) → R v v) → (xs : List A) (i : ℕ) (x y : A) → slice_get xs i ≡ Some x
      → R (known x) (known y) → Each R (map known xs) (map known (set xs i y))
  each_one same [] i x y at r = absurd (none-some x at)
  each_one same (z ∷ zs) zero x y at r =
      (subst (λ w. R (known w) (known y)) (sym (same_Some z x at)) r, all_same same zs)
  each_one same (z ∷ zs) (suc i) x y at r = (same (known z), each_one same zs i x y at r)

-- a function that doesn't tell a changed row from the one before tells the lists not apart
pub map_one : {A B : Type 0} (f : A → B) (xs : List A) (i : ℕ) (x y : A) → slice_get xs i ≡ Some x
    → f y ≡ f x → map f (set xs i y) ≡ map f xs
map_one f xs i x y at same =
    map-set f xs i y
    ∙ (ap (λ z. set (map f xs) i z) same ∙ set_again (map f xs) i (f x) (get_map f xs i x at))

-- one item weighs no more than all
pub weigh_one_of : {A : Type 0} (f : A → ℕ) (xs : List A) (i : ℕ) (x : A) → slice_get xs i ≡ Some x
    → f x ≤ weigh f xs
weigh_one_of f [] i x at = absurd (none-some x at)
weigh_one_of f (y ∷ ys) zero x at = let e : f y ≡ f x = ap f (same_Some y x at) in omega arith
weigh_one_of f (y ∷ ys) (suc i) x at = let r = weigh_one_of f ys i x at in omega arith

abbrev pub head_or : {A : Type 0} → A → List A → A
head_or d [] = d
head_or d (x ∷ xs) = x

abbrev pub tail_of : {A : Type 0} → List A → List A
tail_of [] = []
tail_of (x ∷ xs) = xs

-- what each has that a function tells apart no more than before
pub all_same_by : {A : Type 0} (f : A → ℕ) (n : ℕ) (xs ys : List A) → map f ys ≡ map f xs
    → All (λ x. f x ≡ n) xs → All (λ y. f y ≡ n) ys
all_same_by f n [] [] same all = All-nil (λ y. f y ≡ n)
all_same_by f n [] (y ∷ ys) same all =
    let m : length (map f (y ∷ ys)) ≡ 0 = ap length same in
    absurd (omega arith)
all_same_by f n (x ∷ xs) [] same all = All-nil (λ y. f y ≡ n)
all_same_by f n (x ∷ xs) (y ∷ ys) same all = All-cons (λ z. f z ≡ n) y ys
    (ap (head_or 0) same ∙ All-head (λ z. f z ≡ n) x xs all)
    (all_same_by f n xs ys (ap tail_of same) (All-tail (λ z. f z ≡ n) x xs all))
