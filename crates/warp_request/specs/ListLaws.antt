-- Inner: a law on lists that a crate above cites.
use Rattle.std.proofs.Common.{◌≡◌, ℕ, ◌-◌, ◌≤◌, List, ◌++◌, length, take, drop, slice_range, ap, ◌∙◌, arith}
use Rattle.std.proofs.Common.{length-drop}
use Rattle.std.proofs.lemmas.List.{take-append-le, drop-append-le}

-- a slice of a beginning is a slice of the whole
pub slice_range-append : (w t : List ℕ) (a b : ℕ) → a ≤ b → b ≤ length w
    → slice_range (w ++ t) a b ≡ slice_range w a b
slice_range-append w t a b ordered fits =
    let start : a ≤ length w = omega arith in
    let long : b - a ≤ length (drop a w) = omega (arith, length-drop a w) in
    ap (λ (x : List ℕ). take (b - a) x) (drop-append-le a w t start)
    ∙ take-append-le (b - a) (drop a w) t long
