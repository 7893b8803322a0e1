-- To be believed: the seats of a pass, as classes of numbers. The class (r, k) is the numbers that
-- leave r when divided by 2 ^ k.
use Rattle.std.specs.Prelude.{◌≡◌, ℕ, ◌+◌, ◌%◌, ◌^◌, ◌<◌, ◌⊎◌, ◌||◌, ◌==◌, List, [], ◌∷◌, Bool, false}
use Rattle.turn_cell.specs.Weights.{weigh, one_if}

-- the number is in the class
abbrev pub InClass : ℕ → ℕ × ℕ → Type 0
InClass n c = n % 2 ^ c.1 ≡ c.0

-- the number is in one of the classes
abbrev pub Within : ℕ → List (ℕ × ℕ) → Type 0
Within n [] = ⊥
Within n (c ∷ cs) = InClass n c ⊎ Within n cs

-- the same as a test
abbrev pub within : List (ℕ × ℕ) → ℕ → Bool
within [] n = false
within (c ∷ cs) n = (n % 2 ^ c.1 == c.0) || within cs n

-- in how many of the classes the number is
abbrev pub count_in : ℕ → List (ℕ × ℕ) → ℕ
count_in n cs = weigh (λ c. one_if (n % 2 ^ c.1 == c.0)) cs

-- each is a class (r, k) with r below 2 ^ k, and no number is in two of them
abbrev pub AreClasses : List (ℕ × ℕ) → Type 0
AreClasses [] = Unit {0}
AreClasses (c ∷ cs) = (c.0 < 2 ^ c.1) × ((n : ℕ) → InClass n c → Within n cs → ⊥) × AreClasses cs

-- no number is in a class of both
abbrev pub Apart : List (ℕ × ℕ) → List (ℕ × ℕ) → Type 0
Apart cs ds = (n : ℕ) → Within n cs → Within n ds → ⊥

-- the r of the first class, which is the seat that calls are entered under
abbrev pub first_of : List (ℕ × ℕ) → ℕ
first_of [] = 0
first_of (c ∷ cs) = c.0

-- where the number is in one of the classes (r, k), it is r
abbrev pub OnlyFirsts : ℕ → List (ℕ × ℕ) → Type 0
OnlyFirsts n [] = Unit {0}
OnlyFirsts n (c ∷ cs) = (InClass n c → n ≡ c.0) × OnlyFirsts n cs

-- of the first class the half that keeps its r, and the other classes
abbrev pub halved : List (ℕ × ℕ) → List (ℕ × ℕ)
halved [] = []
halved (c ∷ cs) = (c.0, c.1 + 1) ∷ cs

-- the other half of the first class
abbrev pub other_half : List (ℕ × ℕ) → List (ℕ × ℕ)
other_half [] = []
other_half (c ∷ cs) = (c.0 + 2 ^ c.1, c.1 + 1) ∷ []
