-- Inner: which openings the set of a tally holds.
use Rattle.std.specs.Prelude.{◌≡◌, ◌||◌, ◌&&◌, not, Bool, ℕ}
use Rattle.std.specs.Ordering.{nat_cmp, ordering_then}
use Rattle.std.specs.declared.cmp.Ordering.{Ordering}
use Rattle.std.specs.BTreeSet.{contains}
use Rattle.reg_keys.specs.declared.opening.Opening.{Opening}
use Rattle.reg_keys.specs.Tests.{same}
use Rattle.warp_tally.specs.declared.open_set.OpenSet.{OpenSet}

-- the order of the keys: by number, then by descriptor
abbrev pub key_cmp : ℕ × ℕ → ℕ × ℕ → Ordering
key_cmp x y = ordering_then (nat_cmp x.0 y.0) (nat_cmp x.1 y.1)

-- the set holds the opening
abbrev pub holds : OpenSet → Opening → Bool
holds s o = contains key_cmp s.keys (o.number, o.fd)

-- the set holds this opening too, and the others as before
abbrev pub HasAdded : Opening → OpenSet → OpenSet → Type 0
HasAdded o s t = (p : Opening) → holds t p ≡ same p o || holds s p

-- the set doesn't hold this opening, and the others as before
abbrev pub SetHasTaken : Opening → OpenSet → OpenSet → Type 0
SetHasTaken o s t = (p : Opening) → holds t p ≡ not (same p o) && holds s p
