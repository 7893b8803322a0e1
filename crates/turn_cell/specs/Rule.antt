-- Inner: the rule of a turn cell's table, and what each kind of atomic step tells.
use Rattle.std.specs.Prelude.{◌≡◌, ◌≢◌, ℕ, ◌+◌, ◌*◌, ◌%◌, ◌^◌, ◌≤◌, ◌⊎◌, ◌/◌, List, [], ◌∷◌, ◌++◌, length}
use Rattle.std.specs.Prelude.{replicate, false, Option, Some, None}
use mathlib.Core.Option as maths
use lib.ListN.{get_elem?}
use Rattle.atomic_table.specs.Table.{State, Me, Step, rest}
use Rattle.turn_cell.specs.declared.view.Turn.{Turn}
use Rattle.turn_cell.specs.declared.view.Turn.TheVariants.{Idle, Making, Holds}
use Rattle.turn_cell.specs.declared.view.JoinPending.TheVariants.{Nothing}
use Rattle.turn_cell.specs.declared.view.View.{View}
use Rattle.turn_cell.specs.Classes.{AreClasses, Apart}
use Rattle.turn_cell.specs.History.{Log, Ahead, AtFirsts, IsPart}
use Rattle.turn_cell.specs.View.{seat_of, turned, tried, has_seen, JoinFits}

-- what the word has beyond twice the entries: one while a pass holds the turn
abbrev pub odd_of : Option ℕ → ℕ
odd_of None = 0
odd_of (Some j) = 1

-- the words of the table: the cell's own is the one at place 16 of 32, so that each side of it is apart from
-- other memory by a line of the processor's cache and more
abbrev pub words_with : ℕ → List ℕ
words_with n = replicate 16 0 ++ n ∷ replicate 15 0

module _ {E : Type 0} where
  -- what a pass knows is so: its part's name, a beginning of the history with nothing of its own after it,
  -- and its own entries at its firsts
  abbrev pub Sees : List ℕ → Log E → View E → Type 0
  Sees name log v =
      (v.name ≡ name) × AreClasses v.classes × Ahead v.classes v.seen log × AtFirsts v.classes log
      × JoinFits v.told

  module _ {P : Type 0} (stands : P → Log E → Type 0) (name_of : P → List ℕ) where
    -- what a pass knows of the turn is so
    abbrev pub KnowsTurn : Option ℕ → Log E → List (maths.Option (Option P)) → ℕ → Turn E → Type 0
    KnowsTurn holder log homes id Idle = Unit {0}
    KnowsTurn holder log homes id Making =
        (holder ≡ Some id) × (log ≡ []) × (get_elem? homes 1 ≡ maths.some (maths.some None))
    KnowsTurn holder log homes id (Holds l) = (holder ≡ Some id) × (l ≡ log)

    -- The rule. The word is twice the length of the history, and one more while a pass holds the
    -- turn. While none does, the part is in the slot and stands for the history. What each pass knows
    -- is so, and no seat is of two passes
    pub record Kept (name : List ℕ) (s : State (Option P) (View E)) : Type 0 where
      pub log : Log E
      pub holder : Option ℕ
      pub word : s.words ≡ words_with (2 * length log + odd_of holder)
      pub short : length log ≤ 2 ^ 62
      pub home : holder ≡ None → (p : P) × (get_elem? s.homes 1 ≡ maths.some (maths.some (Some p)))
          × IsPart stands name_of name log p
      pub turns : (j : ℕ) (v : View E) → get_elem? s.views j ≡ maths.some v
          → KnowsTurn holder log s.homes j v.turn
      pub sights : (j : ℕ) (v : View E) → get_elem? s.views j ≡ maths.some v → v.gone ≡ false
          → Sees name log v
      pub apart : (i j : ℕ) (v w : View E) → i ≢ j → get_elem? s.views i ≡ maths.some v
          → get_elem? s.views j ≡ maths.some w → v.gone ≡ false → w.gone ≡ false → Apart v.classes w.classes

    -- the pass took the turn of a history l whose part is p
    abbrev pub TurnTaken : Me (Option P) (View E) → ℕ → Me (Option P) (View E) → Type 0
    TurnTaken m n m' =
        (l : Log E) × (p : P) × (n ≡ 2 * length l) × (length l ≤ 2 ^ 62) × (m'.0 ≡ tried n (Holds l) m.0)
        × (m'.1 ≡ (1, Some p) ∷ m.1) × IsPart stands name_of m.0.name l p × Ahead m.0.classes m.0.seen l
        × AreClasses m.0.classes

    -- the turn was asked for, and is held where the word was even
    abbrev pub HasAsked : Me (Option P) (View E) → ℕ → Me (Option P) (View E) → Type 0
    HasAsked m n m' = ((n % 2 ≡ 1) × (m'.0 ≡ tried n Idle m.0) × (m'.1 ≡ m.1)) ⊎ TurnTaken m n m'

    -- a `fetch_or`
    abbrev pub asked : Step (Option P) → Me (Option P) (View E) → ℕ → Me (Option P) (View E) → Type 0
    asked st = HasAsked

  -- what a load shows: a history that goes on from what was seen, of the length that the word has,
  -- and what a join was to be told
  pub record Shown (v : View E) (n : ℕ) : Type 0 where
    pub log : Log E
    pub ahead : Ahead v.classes v.seen log
    pub count : n / 2 ≡ length log
    pub fits : JoinFits v.told
    pub are : AreClasses v.classes
    pub firsts : AtFirsts v.classes v.seen

  module _ {P : Type 0} where
    -- a load by the pass that makes a cell: the slot, which has no part yet, is taken
    abbrev pub begun : Step (Option P) → Me (Option P) (View E) → ℕ → Me (Option P) (View E) → Type 0
    begun st m n m' = (m'.0 ≡ turned (Holds []) m.0) × (m'.1 ≡ (1, None) ∷ m.1)

    -- a `fetch_sub`: the turn was given back, with nothing added
    abbrev pub given_back : Step (Option P) → Me (Option P) (View E) → ℕ → Me (Option P) (View E) → Type 0
    given_back st m n m' = (m'.0 ≡ turned Idle m.0) × (m'.1 ≡ rest m.1)

    -- a `fetch_add`: the turn was ended, and the entry is the last of the history
    abbrev pub ended : Option E → Step (Option P) → Me (Option P) (View E) → ℕ
        → Me (Option P) (View E) → Type 0
    ended item st m n m' =
        (l : Log E) (e : E) → m.0.turn ≡ Holds l → item ≡ Some e
        → (m'.0 ≡ has_seen (l ++ (seat_of m.0, e) ∷ []) m.0) × (m'.1 ≡ rest m.1)

    -- a load that changes nothing
    abbrev pub looked : Step (Option P) → Me (Option P) (View E) → ℕ → Me (Option P) (View E) → Type 0
    looked st m n m' = (m'.0 ≡ record m.0 { told = Nothing }) × (m'.1 ≡ m.1) × Shown m.0 n

  module _ {P : Type 0} where
    -- no call is being made with the pass: it doesn't hold the turn, has nothing out of the
    -- slot, and has seats of its own
    abbrev pub IsAtRest : Me (Option P) (View E) → Type 0
    IsAtRest m =
        (m.0.turn ≡ Idle) × (m.1 ≡ []) × (m.0.told ≡ Nothing) × (m.0.gone ≡ false) × (m.0.classes ≢ [])
