-- To be believed: sums over lists, by which everything about several passes is said. With 1 for one kind of
-- item and 0 for the others, a weight counts.
use Rattle.std.specs.Prelude.{ℕ, ◌+◌, if◌then◌else◌, List, [], ◌∷◌, Bool}

-- the weights of the items, added up
abbrev pub weigh : {A : Type 0} → (A → ℕ) → List A → ℕ
weigh f [] = 0
weigh f (x ∷ xs) = f x + weigh f xs

-- 1 where the test is met
abbrev pub one_if : Bool → ℕ
one_if b = (if b then 1 else 0)
