-- Inner: how far passes have been brought to one history, pass by pass. The first pass is the one that learns
-- what the others have seen, and then tells them.
use Rattle.std.specs.Prelude.{◌≡◌, ℕ, ◌<◌, List, map, slice_get, Some, length}
use lib.ListN.{set}
use mathlib.Core.List.{IsPrefix}
use Rattle.turn_cell.specs.History.{Log, longer}
use Rattle.level.specs.Leveling.{seen_by}
use Rattle.level.specs.Meanings.{PassMeaning, views}

module _ {E : Type 0} where
  -- the pass at j came to see what the pass at i had seen
  abbrev pub Shares : ℕ → ℕ → List (Log E) → List (Log E) → Type 0
  Shares i j ls ms =
      (u w : Log E) × (slice_get ls i ≡ Some u) × (slice_get ls j ≡ Some w) × (ms ≡ set ls j (longer w u))
      × IsPrefix u (longer w u) × IsPrefix w (longer w u)

  -- The first has seen all that the first i have seen, which is what some pass had seen before, and the
  -- others have seen what they had
  pub record Gathered (olds : List (Log E)) (i : ℕ) (ls : List (Log E)) : Type 0 where
    pub log : Log E
    pub first : slice_get ls 0 ≡ Some log
    pub below : (k : ℕ) (x : Log E) → k < i → slice_get ls k ≡ Some x → IsPrefix x log
    pub from : (k : ℕ) × (slice_get olds k ≡ Some log)
    pub others : (k : ℕ) → 0 < k → slice_get ls k ≡ slice_get olds k

  -- The first i have seen what the first had seen, which is what some pass had seen
  -- before, and no other has seen more
  pub record Spread (olds : List (Log E)) (i : ℕ) (ls : List (Log E)) : Type 0 where
    pub log : Log E
    pub first : slice_get ls 0 ≡ Some log
    pub below : (k : ℕ) (x : Log E) → slice_get ls k ≡ Some x → IsPrefix x log
    pub same : (k : ℕ) (x : Log E) → k < i → slice_get ls k ≡ Some x → x ≡ log
    pub from : (k : ℕ) × (slice_get olds k ≡ Some log)

module _ {P O : Type 0} (m : PassMeaning P O) where
  -- of each cell, the first of the passes that were ps has seen all that the first n have
  abbrev pub AreGathered : List P → ℕ → List P → Type 0
  AreGathered ps n qs = (k : m.cell) → Gathered (map seen_by (views m k ps)) n (map seen_by (views m k qs))

  -- of each cell, the first n of the passes that were ps have seen what the first has
  abbrev pub AreSpread : List P → ℕ → List P → Type 0
  AreSpread ps n qs = (k : m.cell) → Spread (map seen_by (views m k ps)) n (map seen_by (views m k qs))

  -- of each cell, whatever the passes had been before the first came to see what all have: the
  -- first n have now seen that too
  abbrev pub HaveTold : List P → ℕ → List P → Type 0
  HaveTold ps n qs = (olds : List P) → AreGathered olds (length ps) ps → AreSpread olds n qs
