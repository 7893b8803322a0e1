-- Inner: the history of the counter that the tests lay into a cell. An entry is the step that was
-- asked, and the count after it.
use Rattle.std.specs.Prelude.{◌≡◌, ℕ, ◌+◌, ◌%◌, ◌^◌, List, [], ◌∷◌}

-- the count after these entries, from n, as a u64 has it
abbrev pub count_from : ℕ → List (ℕ × (ℕ × ℕ)) → ℕ
count_from n [] = n
count_from n (e ∷ es) = count_from ((n + e.1.0) % 2 ^ 64) es

-- each entry has the count after it
abbrev pub AreCounts : ℕ → List (ℕ × (ℕ × ℕ)) → Type 0
AreCounts n [] = Unit {0}
AreCounts n (e ∷ es) = (e.1.1 ≡ (n + e.1.0) % 2 ^ 64) × AreCounts ((n + e.1.0) % 2 ^ 64) es

-- a counter that shows n stands for this history
abbrev pub CountsTo : List (ℕ × (ℕ × ℕ)) → ℕ → Type 0
CountsTo h n = (count_from 0 h ≡ n) × AreCounts 0 h
