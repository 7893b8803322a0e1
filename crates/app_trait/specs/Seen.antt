-- To be believed: what the looks for one request have found so far.
use Rattle.std.specs.Prelude.{ℕ, Option, Some, None}
use Rattle.app_trait.specs.declared.request.Seen.{Seen}
use Rattle.app_trait.specs.declared.request.Seen.TheVariants.{Nothing, FirstFound, FirstAbsent, SecondFound}
use Rattle.app_trait.specs.declared.request.Seen.TheVariants.{SecondAbsent}

-- the last look found a file
abbrev pub HasFound : Seen → Type 0
HasFound Nothing = ⊥
HasFound (FirstFound size mtime) = Unit {0}
HasFound FirstAbsent = ⊥
HasFound (SecondFound size mtime) = Unit {0}
HasFound SecondAbsent = ⊥

-- what is seen after a first look, which found a file of this size and time, or none
abbrev pub first_seen : Option (ℕ × ℕ) → Seen
first_seen None = FirstAbsent
first_seen (Some facts) = FirstFound facts.0 facts.1

-- what is seen after a second look, which found a file of this size and time, or none
abbrev pub second_seen : Option (ℕ × ℕ) → Seen
second_seen None = SecondAbsent
second_seen (Some facts) = SecondFound facts.0 facts.1

-- what is seen after one more look, which found a file of this size and time, or none
abbrev pub next_seen : Seen → Option (ℕ × ℕ) → Seen
next_seen Nothing found = first_seen found
next_seen (FirstFound size mtime) found = second_seen found
next_seen FirstAbsent found = second_seen found
next_seen (SecondFound size mtime) found = second_seen found
next_seen SecondAbsent found = second_seen found
