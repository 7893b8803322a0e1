-- Inner: what the bitmap of free numbers stands for. `out` tells of each number whether it is out.
use Rattle.std.specs.Prelude.{◌≡◌, ℕ, ◌+◌, ◌*◌, ◌<◌, ◌==◌, ◌&&◌, ◌||◌, Bool, true, false, not, List, length}
use Rattle.std.specs.Prelude.{slice_index}
use Rattle.std.specs.Int.{bit_at}
use Rattle.event_mgr.specs.declared.free_numbers.FreeNumbers.{FreeNumbers}

-- the number is out too
abbrev pub put_out : ℕ → (ℕ → Bool) → ℕ → Bool
put_out n out m = (n == m) || out m

-- the number isn't out any more
abbrev pub put_in : ℕ → (ℕ → Bool) → ℕ → Bool
put_in n out m = not (n == m) && out m

-- a bit that is set says that its number is free, and a bit of the summary that its word isn't zero
pub record IsBitmap (out : ℕ → Bool) (words : List ℕ) (summary : ℕ) : Type 0 where
  pub many : length words ≡ 64
  pub each : (i j : ℕ) → i < 64 → j < 64 → out (64 * i + j) ≡ (bit_at (slice_index words i) j == 0)
  pub empty : (i : ℕ) → i < 64 → (bit_at summary i == 0) ≡ (slice_index words i == 0)

-- the bitmap shows which numbers are out
abbrev pub ShowsOut : (ℕ → Bool) → FreeNumbers → Type 0
ShowsOut out f = IsBitmap out f.words.items f.summary
