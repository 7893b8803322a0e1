-- To be believed: what contracts know of a clock, and the moments that it hands out.
use Rattle.std.specs.Prelude.{◌≡◌, ℕ, List, ◌++◌, Option, IfSome, IsSomeAnd}

-- what contracts know of a clock
pub record ClockTold : Type 0 where
  -- the moments handed out, where they are told
  pub given : Option (List ℕ)
  -- the moment that each one handed out is, where there is such a one
  pub still : Option ℕ

-- where the list is still told, it was told before, and the piece came to its end
abbrev pub Gains : Option (List ℕ) → Option (List ℕ) → List ℕ → Type 0
Gains old new piece = IfSome new (λ n. IsSomeAnd old (λ o. n ≡ o ++ piece))

-- moments were handed out, and nothing else changed
pub record Gives (moments : List ℕ) (old new : ClockTold) : Type 0 where
  pub gains : Gains old.given new.given moments
  pub stays : new.still ≡ old.still
