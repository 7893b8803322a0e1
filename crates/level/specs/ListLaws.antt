-- Inner: laws that crates above cite: of lists with one item changed or one item more, of facts that hold of
-- each item, and of what a function makes of lists.
use Rattle.std.proofs.Common.{◌≡◌, ℕ, zero, suc, ◌<◌, List, [], ◌∷◌, ◌++◌, length, map, set, get_or, take}
use Rattle.std.proofs.Common.{All, ◌∙◌, sym, refl, ap, subst, arith, Some}
use Rattle.std.specs.Prelude.{slice_get}
use Rattle.std.proofs.Math.Seq.{take-append_seam}
use Rattle.turn_cell.specs.Weights.{weigh}
use Rattle.std.proofs.lemmas.Option.{none-some, same_Some, slice_get_within, slice_get-get_or}
use Rattle.std.proofs.lemmas.Option.{get_or_from_slice_get}

module _ {A : Type 0} where
  -- to set a place to what it has changes nothing
  pub set_again : (l : List A) (i : ℕ) (a : A) → slice_get l i ≡ Some a → set l i a ≡ l
  set_again [] i a e = refl
  set_again (x ∷ xs) zero a e = λ k. sym (same_Some x a e) k ∷ xs
  set_again (x ∷ xs) (suc i) a e = λ k. x ∷ set_again xs i a e k

module _ {A : Type 0} (P : A → Type 0) where
  -- what holds of an item holds of each of a list of it alone
  pub one_all : (x : A) → P x → All P (x ∷ [])
  one_all x here zero d h = here
  one_all x here (suc k) d h = absurd (omega arith)

  -- what holds at each place holds of each item
  pub All-from_get : (xs : List A) → ((k : ℕ) (x : A) → slice_get xs k ≡ Some x → P x) → All P xs
  All-from_get xs each k d h = each k (get_or xs k d) (slice_get-get_or xs k d h)

  -- what holds of each item holds of the one at a place
  pub All-get : (xs : List A) (k : ℕ) (x : A) → slice_get xs k ≡ Some x → All P xs → P x
  All-get xs k x is all = subst P (get_or_from_slice_get xs k x x is) (all k x (slice_get_within xs k x is))

module _ {A B : Type 0} (f : A → B) where
  -- what stands at a place of an image is the image of what stands there
  pub get_map : (xs : List A) (i : ℕ) (x : A) → slice_get xs i ≡ Some x → slice_get (map f xs) i ≡ Some (f x)
  get_map [] i x e = absurd (none-some x e)
  get_map (y ∷ ys) zero x e = ap (λ z. Some (f z)) (same_Some y x e)
  get_map (y ∷ ys) (suc i) x e = get_map ys i x e

  -- items that a function tells apart no more than before have the same images
  pub map_each : (xs ys : List A) → length ys ≡ length xs
      → ((i : ℕ) (d : A) → i < length xs → f (get_or ys i d) ≡ f (get_or xs i d)) → map f ys ≡ map f xs
  map_each [] [] l e = refl
  map_each [] (y ∷ ys) l e = absurd (omega arith)
  map_each (x ∷ xs) [] l e = absurd (omega arith)
  map_each (x ∷ xs) (y ∷ ys) l e =
      λ k. e 0 x (omega arith) k ∷ map_each xs ys (omega arith) (λ i d h. e (suc i) d (omega arith)) k

  -- an image weighs what its items weigh by their images
  pub weigh_map : (g : B → ℕ) (xs : List A) → weigh g (map f xs) ≡ weigh (λ x. g (f x)) xs
  weigh_map g [] = refl
  weigh_map g (x ∷ xs) = let r = weigh_map g xs in omega arith

module _ {A : Type 0} where
  -- what is written back through a slice of a whole vector is all of it
  pub whole_slice : (n : ℕ) (s t : List A) → n ≡ length s → take n (s ++ t) ≡ s
  whole_slice n s t e = ap (λ (k : ℕ). take k (s ++ t)) e ∙ take-append_seam s t

-- the image of an image is the image by both functions
pub map_map : {A B C : Type 0} (f : B → C) (g : A → B) (xs : List A)
    → map (λ x. f (g x)) xs ≡ map f (map g xs)
map_map f g [] = refl
map_map f g (x ∷ xs) = ap (λ l. f (g x) ∷ l) (map_map f g xs)
