-- To be believed: which calls of a memory form fail, by their numbers.
use Rattle.std.specs.Prelude.{ℕ, Bool, IsTrue, List}
use Rattle.std.specs.List.{Contains}
use Rattle.outside.specs.Counts.{more_by_one}
use Rattle.outside.specs.declared.files.RootOut.{RootOut}
use Rattle.outside.specs.declared.files.RootOut.TheVariants as Roots
use Rattle.outside.specs.declared.files.FindOut.{FindOut}
use Rattle.outside.specs.declared.files.FindOut.TheVariants as Finds

-- the numbers of the calls that fail, and how many calls there were
pub record CallState : Type 0 where
  pub failing : List ℕ
  pub calls : ℕ

-- the next call is among those that fail; calls are numbered from 1
abbrev pub NextFails : CallState → Type 0
NextFails script = Contains script.failing (more_by_one script.calls)

-- one more call was made
abbrev pub called : CallState → CallState
called script = record script { calls = more_by_one script.calls }

-- a look for the root fails exactly where its number says so, and else says whether the root is there
abbrev pub PlaysRoot : CallState → Bool → RootOut → Type 0
PlaysRoot script present Roots.Failed = NextFails script
PlaysRoot script present Roots.Present = (NextFails script → ⊥) × IsTrue present
PlaysRoot script present Roots.Absent = (NextFails script → ⊥) × (IsTrue present → ⊥)
PlaysRoot script present Roots.NoMemory = Unit {0}

-- a look for a file fails exactly where its number says so
abbrev pub PlaysFind : {X : Type 0} → CallState → FindOut X → Type 0
PlaysFind script Finds.Failed = NextFails script
PlaysFind script (Finds.Found o) = NextFails script → ⊥
PlaysFind script Finds.Absent = NextFails script → ⊥
PlaysFind script Finds.NoMemory = Unit {0}
