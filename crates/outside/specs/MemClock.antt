-- To be believed: a clock that hands out a list of moments.
use Rattle.std.specs.Prelude.{◌==◌, ℕ, zero, suc, ◌-◌, ◌+◌, List, [], ◌∷◌, ◌++◌, Option, Some, None}
use Rattle.std.specs.Prelude.{if◌then◌else◌, length, min, nat_lt, slice_index}
use Rattle.outside.specs.Counts.{full}
use Rattle.outside.specs.Moments.{ClockTold}

-- the moments in order, and how many were handed out so far
pub record ClockScript : Type 0 where
  pub moments : List ℕ
  pub asked : ℕ

-- the moment that comes after this many: those of the list in order, and then the last one again and again
abbrev pub moment_after : List ℕ → ℕ → ℕ
moment_after moments asked = slice_index moments (min asked (length moments - 1))

-- the first so many moments that are handed out
abbrev pub moments_before : List ℕ → ℕ → List ℕ
moments_before moments zero = []
moments_before moments (suc n) = moments_before moments n ++ moment_after moments n ∷ []

-- the moments handed out, told as long as they can be counted
abbrev pub moments_told : ClockScript → Option (List ℕ)
moments_told clock = if nat_lt clock.asked full then Some (moments_before clock.moments clock.asked) else None

-- the one moment of a list of one
abbrev pub only_moment : ClockScript → Option ℕ
only_moment clock = if length clock.moments == 1 then Some (slice_index clock.moments 0) else None

-- what the clock tells
abbrev pub told_of : ClockScript → ClockTold
told_of clock = record { given = moments_told clock; still = only_moment clock }

-- the clock after it was asked once more
abbrev pub clock_asked : ClockScript → ClockScript
clock_asked clock = record clock { asked = min (clock.asked + 1) full }
