-- A counter's history with one entry more.
use Rattle.std.proofs.Common.{◌≡◌, ℕ, ◌+◌, ◌%◌, ◌^◌, List, [], ◌∷◌, ◌++◌, sym, ◌∙◌}
use Rattle.turn_cell.specs.Counts.{count_from, AreCounts}

pub count_snoc : (n m : ℕ) (h : List (ℕ × (ℕ × ℕ))) (e : ℕ × (ℕ × ℕ)) → count_from n h ≡ m
    → count_from n (h ++ e ∷ []) ≡ (m + e.1.0) % 2 ^ 64
count_snoc n m [] e is = λ i. (is i + e.1.0) % 2 ^ 64
count_snoc n m (x ∷ xs) e is = count_snoc ((n + x.1.0) % 2 ^ 64) m xs e is

pub counts_snoc : (n m : ℕ) (h : List (ℕ × (ℕ × ℕ))) (e : ℕ × (ℕ × ℕ)) → count_from n h ≡ m
    → AreCounts n h → e.1.1 ≡ (m + e.1.0) % 2 ^ 64 → AreCounts n (h ++ e ∷ [])
counts_snoc n m [] e is all here = (here ∙ (λ i. (sym is i + e.1.0) % 2 ^ 64), tt)
counts_snoc n m (x ∷ xs) e is all here = (all.0, counts_snoc ((n + x.1.0) % 2 ^ 64) m xs e is all.1 here)
