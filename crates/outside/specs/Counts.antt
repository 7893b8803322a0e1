-- To be believed: counts of faults and waits, which never fall and stand still at the end of their type.
use Rattle.std.specs.Prelude.{ℕ, ◌+◌, ◌≤◌, if◌then◌else◌, min, nat_lt}

-- two counts of one object, one for each direction
pub record Counts : Type 0 where
  pub reads : ℕ
  pub writes : ℕ

-- the end of a count's type, where it stands still
abbrev pub full : ℕ
full = 18446744073709551615

-- one more, as long as there is room
abbrev pub more_by_one : ℕ → ℕ
more_by_one n = if nat_lt n full then n + 1 else n

-- a count rose; one that stands at its end counts as risen
abbrev pub Rises : ℕ → ℕ → Type 0
Rises old new = min (old + 1) full ≤ new

-- both counts are numbers of their type
pub record AreCounts (counts : Counts) : Type 0 where
  pub reads : counts.reads ≤ full
  pub writes : counts.writes ≤ full

-- nothing was counted in either direction
abbrev pub nothing_counted : Counts
nothing_counted = record { reads = 0; writes = 0 }
