-- Inner: lists whose numbers ascend.
use Rattle.std.specs.Prelude.{ℕ, ◌<◌, List, [], ◌∷◌}

module _ {A : Type 0} (number : A → ℕ) where
  -- each number is above n
  abbrev pub AllAbove : ℕ → List A → Type 0
  AllAbove n [] = Unit {0}
  AllAbove n (x ∷ xs) = (n < number x) × AllAbove n xs

  -- each number is below all after it
  abbrev pub Ascends : List A → Type 0
  Ascends [] = Unit {0}
  Ascends (x ∷ xs) = AllAbove (number x) xs × Ascends xs

  -- each number is below n
  abbrev pub AllBelow : ℕ → List A → Type 0
  AllBelow n [] = Unit {0}
  AllBelow n (x ∷ xs) = (number x < n) × AllBelow n xs
