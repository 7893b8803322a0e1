-- To be believed: what contracts know of a pass, or of several that are held together, and what it says that
-- they shared or were brought level.
use Rattle.std.specs.Prelude.{◌≡◌, ℕ, List, map, All}
use Rattle.turn_cell.specs.declared.view.View.{View}
use Rattle.turn_cell.specs.View.{first_view}
use Rattle.turn_cell.specs.Calls.{IsSplit}
use Rattle.level.specs.Leveling.{classes_of, HasShared, HoldsEachOnce, KeepsOwn, BroughtLevel}

-- what the contracts of passes speak of
pub record PassMeaning (P O : Type 0) : Type 1 where
  -- the cells that it holds a pass of
  pub cell : Type 0
  -- what an entry is in the history of each
  pub entry : cell → Type 0
  -- what it knows of each
  pub view : (k : cell) → P → View (entry k)
  -- it is of these cells
  pub is_of : O → P → Type 0

module _ {P O : Type 0} (m : PassMeaning P O) where
  -- what the passes know of one cell
  abbrev pub views : (k : m.cell) → List P → List (View (m.entry k))
  views k ps = map (m.view k) ps

  -- each is a pass of these cells
  abbrev pub AllAreOf : O → List P → Type 0
  AllAreOf o ps = All (λ p. m.is_of o p) ps

  -- of each cell, the pass that was p, and then p', told the one that was q, and then q', what it had seen
  abbrev pub HaveShared : P → P → P → P → Type 0
  HaveShared p q p' q' = (k : m.cell) → HasShared (m.view k p) (m.view k q) (m.view k p') (m.view k q')

  -- of each cell, the pass was split: it was p and is p', and the new one is o
  abbrev pub WereSplit : P → P → P → Type 0
  WereSplit p p' o = (k : m.cell) → IsSplit (m.view k p) (m.view k p') (m.view k o)

  -- of each cell, it is the first pass, which has all seats and has seen nothing
  abbrev pub IsFirstPass : P → Type 0
  IsFirstPass p = (k : m.cell) → (name : List ℕ) × (m.view k p ≡ first_view name)

  -- of each cell, each number is a seat of exactly one of the passes
  abbrev pub HoldAllSeats : List P → Type 0
  HoldAllSeats ps = (k : m.cell) → HoldsEachOnce (views k ps)

  -- of each cell, the passes at the same places have the seats that they had
  abbrev pub KeepSeats : List P → List P → Type 0
  KeepSeats ps qs = (k : m.cell) → map classes_of (views k qs) ≡ map classes_of (views k ps)

  -- of each cell, no pass made a call, and none forgot anything
  abbrev pub KeepOwn : List P → List P → Type 0
  KeepOwn ps qs = (k : m.cell) → KeepsOwn (views k ps) (views k qs)

  -- of each cell, the passes that were ps were brought to one history
  abbrev pub AreBroughtLevel : List P → List P → Type 0
  AreBroughtLevel ps qs = (k : m.cell) → BroughtLevel (views k ps) (views k qs)
