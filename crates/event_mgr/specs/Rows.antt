-- To be believed: rows of turn cells, and rows of passes of them. What the passes of a
-- row know is a row of views.
use Rattle.std.specs.Prelude.{◌≡◌, ℕ, List, [], ◌∷◌, map, length, slice_get, slice_set, Some}
use Rattle.crossbeam_utils.specs.declared.cache_padded.CachePadded.{CachePadded}
use Rattle.crossbeam_utils.specs.Padded.{padded_value}
use Rattle.turn_cell.specs.declared.pass.Pass.{Pass}
use Rattle.turn_cell.specs.declared.pass.Tried.{Tried}
use Rattle.turn_cell.specs.declared.pass.Stepped.{Stepped}
use Rattle.turn_cell.specs.declared.view.View.{View}
use Rattle.turn_cell.specs.declared.cell.TurnCell.{TurnCell}
use Rattle.turn_cell.specs.History.{Log}
use Rattle.turn_cell.specs.View.{first_view}
use Rattle.turn_cell.specs.Calls.{view_of, IsOf, IsStep, HasStepped, IsSplit, IsJoined}
use Rattle.level.specs.Leveling.{HasShared}
use Rattle.event_mgr.specs.declared.cells.Cells.{Cells}
use Rattle.event_mgr.specs.declared.cells.CellsPass.{CellsPass}

module _ {V : Type 0} where
  -- at one place of a row one value became another by R, and every other place is as it was
  pub record At (i : ℕ) (R : V → V → Type 0) (vs ws : List V) : Type 0 where
    pub before : V
    pub after : V
    pub there : slice_get vs i ≡ Some before
    pub others : ws ≡ slice_set vs i after
    pub moved : R before after

-- the name of the stripe at this place: its number, and 1, the count that it begins with
abbrev pub name_at : ℕ → List ℕ
name_at i = i ∷ 1 ∷ []

module _ {P E : Type 0} (stands : P → Log E → Type 0) (name_of : P → List ℕ) where
  -- each part has the name of its place, and stands for no calls
  abbrev pub AreUnused : List P → Type 0
  AreUnused ps = (i : ℕ) (p : P) → slice_get ps i ≡ Some p → (name_of p ≡ name_at i) × stands p []

  -- there is such a part for each stripe
  pub record AreNewParts (ps : List P) : Type 0 where
    pub many : length ps ≡ 32
    pub fresh : AreUnused ps

module _ {P E : Type 0} where
  -- what the passes of a row know
  abbrev pub views_of : CellsPass P E → List (View E)
  views_of p = map view_of p.passes.items

module _ {P C R E : Type 0} where
  -- a cell for each stripe and a pass for each: the pass at a place is of the cell at that place,
  -- and knows the name of that stripe
  pub record IsRow (cs : List (CachePadded (TurnCell P C R E))) (ps : List (Pass P E)) : Type 0 where
    pub cells : length cs ≡ 32
    pub passes : length ps ≡ 32
    pub each : (i : ℕ) (x : CachePadded (TurnCell P C R E)) (y : Pass P E) → slice_get cs i ≡ Some x
        → slice_get ps i ≡ Some y → IsOf (padded_value x) y
    pub names : (i : ℕ) (y : Pass P E) → slice_get ps i ≡ Some y → (view_of y).name ≡ name_at i

  -- the passes are of the cells
  abbrev pub AreOf : Cells P C R E → CellsPass P E → Type 0
  AreOf c p = IsRow c.cells.items p.passes.items

module _ {E : Type 0} where
  -- the passes of new cells: each has all seats and has seen nothing
  pub record AreFirst (vs : List (View E)) : Type 0 where
    pub many : length vs ≡ 32
    pub each : (i : ℕ) (v : View E) → slice_get vs i ≡ Some v → v ≡ first_view (name_at i)

  -- each pass of a row that knew vs was split, and knows ws; the new ones know os
  pub record AreSplit (vs ws os : List (View E)) : Type 0 where
    pub many : length ws ≡ length vs
    pub many_new : length os ≡ length vs
    pub each : (i : ℕ) (v w o : View E) → slice_get vs i ≡ Some v → slice_get ws i ≡ Some w
        → slice_get os i ≡ Some o → IsSplit v w o

  -- the passes of a row that knew os were joined into those of one that knew vs, which then know ws
  pub record AreJoined (vs os ws : List (View E)) : Type 0 where
    pub many : length ws ≡ length vs
    pub each : (i : ℕ) (v o w : View E) → slice_get vs i ≡ Some v → slice_get os i ≡ Some o
        → slice_get ws i ≡ Some w → IsJoined v o w

  -- of each place of two rows, the one pass told the other what it had seen
  pub record AreShared (vs ws vs' ws' : List (View E)) : Type 0 where
    pub many : length vs' ≡ length vs
    pub many_other : length ws' ≡ length ws
    pub each : (i : ℕ) (v w v' w' : View E) → slice_get vs i ≡ Some v → slice_get ws i ≡ Some w
        → slice_get vs' i ≡ Some v' → slice_get ws' i ≡ Some w' → HasShared v w v' w'

  module _ {P C R : Type 0} (stands : P → Log E → Type 0) (name_of : P → List ℕ) (entry : C → R → E)
      (answers : C → R → Type 0) where
    -- what each answer of one try on the cell at a place says
    abbrev pub TriesAt : ℕ → C → List (View E) → Tried P C R E → List (View E) → Type 0
    TriesAt i call vs result ws = At i (λ v w. IsStep stands name_of entry answers call v result w) vs ws

    -- the same of a step that waits for its turn
    abbrev pub StepsAt : ℕ → C → List (View E) → Stepped P C R E → List (View E) → Type 0
    StepsAt i call vs result ws = At i (λ v w. HasStepped stands name_of entry answers call v result w) vs ws
