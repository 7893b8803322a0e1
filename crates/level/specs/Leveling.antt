-- To be believed: what several passes of one cell have seen and made together, said of
-- what each of them knows.
use Rattle.std.specs.Prelude.{◌≡◌, ℕ, List, [], map, slice_get, Some, Bool, false, All}
use Rattle.std.specs.List.{Contains}
use mathlib.Core.List.{IsPrefix}
use Rattle.turn_cell.specs.declared.view.View.{View}
use Rattle.turn_cell.specs.declared.pass.Pass.{Pass}
use Rattle.turn_cell.specs.declared.cell.TurnCell.{TurnCell}
use Rattle.turn_cell.specs.Weights.{weigh}
use Rattle.turn_cell.specs.Classes.{count_in}
use Rattle.turn_cell.specs.History.{Log}
use Rattle.turn_cell.specs.View.{own_entries}
use Rattle.turn_cell.specs.Calls.{IsOf, view_of, IsSplit, IsJoined}

module _ {E : Type 0} where
  -- what a pass has seen
  abbrev pub seen_by : View E → Log E
  seen_by v = v.seen

  -- the classes of numbers that are its seats
  abbrev pub classes_of : View E → List (ℕ × ℕ)
  classes_of v = v.classes

  -- each number is in a class of exactly one of the passes
  abbrev pub HoldsEachOnce : List (View E) → Type 0
  HoldsEachOnce vs = (n : ℕ) → weigh (λ v. count_in n v.classes) vs ≡ 1

  -- the pass knows the part's name, has seen nothing, made no `fetch_or` and found no word
  pub record IsFresh (part_name : List ℕ) (v : View E) : Type 0 where
    pub name : v.name ≡ part_name
    pub seen : v.seen ≡ []
    pub tries : v.tries ≡ 0
    pub found : v.found ≡ 0
    pub met_spent : v.met_spent ≡ false

  -- each of the passes is so
  abbrev pub AreFresh : List ℕ → List (View E) → Type 0
  AreFresh name vs = All (IsFresh name) vs

  -- One pass told another what it had seen: what was split off the one, which knew v and then v', was joined
  -- into the other, which knew w and then w'
  pub record HasShared (v w v' w' : View E) : Type 0 where
    pub between : View E
    pub split : IsSplit v v' between
    pub joined : IsJoined w between w'

  -- The passes have seen one history, and each of its entries is one pass's own: whatever entries weigh, the
  -- passes' own weigh together what the history weighs
  pub record IsLevel (vs : List (View E)) : Type 0 where
    pub log : Log E
    pub saw : All (λ v. v.seen ≡ log) vs
    pub sums : (f : ℕ × E → ℕ) → weigh (λ v. weigh f (own_entries v)) vs ≡ weigh f log

  -- Passes that knew vs were brought level, and know ws. The history is one that some pass had seen before,
  -- so what held of each that had been seen holds of it
  pub record BroughtLevel (vs ws : List (View E)) : Type 0 where
    pub level : IsLevel ws
    pub from : Contains (map seen_by vs) level.log

  -- each pass has seen at least what it had seen
  abbrev pub Grows : List (Log E) → List (Log E) → Type 0
  Grows ls ms =
      (k : ℕ) (x : Log E) → slice_get ls k ≡ Some x → (y : Log E) × (slice_get ms k ≡ Some y) × IsPrefix x y

  -- what a pass knows of its part, and of its `fetch_or` steps
  abbrev pub tries_of : View E → List ℕ × ℕ × ℕ × Bool
  tries_of v = (v.name, v.tries, v.found, v.met_spent)

  -- The passes at the same places made no call: their own entries and their tries are what they were, their
  -- seats are shared as before, and none has forgotten what it had seen
  pub record KeepsOwn (vs ws : List (View E)) : Type 0 where
    pub own : map own_entries ws ≡ map own_entries vs
    pub tries : map tries_of ws ≡ map tries_of vs
    pub counts : (n : ℕ) → weigh (λ v. count_in n v.classes) ws ≡ weigh (λ v. count_in n v.classes) vs
    pub grows : Grows (map seen_by vs) (map seen_by ws)

module _ {P C R E : Type 0} where
  -- each pass is of the cell
  abbrev pub AreOf : TurnCell P C R E → List (Pass P E) → Type 0
  AreOf c ps = All (λ p. IsOf c p) ps

module _ {P E : Type 0} where
  -- what each of the passes knows
  abbrev pub views_of : List (Pass P E) → List (View E)
  views_of ps = map view_of ps
