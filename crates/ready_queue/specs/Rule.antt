-- Inner: the rule of a queue, and what each kind of step tells.
use Rattle.std.specs.Prelude.{◌≡◌, ◌≢◌, ℕ, List, [], ◌∷◌, ◌++◌, false, Option, Some, None}
use mathlib.Core.Option as maths
use lib.ListN.{get_elem?}
use Rattle.reg_keys.specs.declared.event.EventName.{EventName}
use Rattle.turn_cell.specs.declared.view.View.{View}
use Rattle.turn_cell.specs.Classes.{AreClasses, Apart}
use Rattle.turn_cell.specs.History.{Foreign, Ahead, AtFirsts}
use Rattle.turn_cell.specs.View.{seat_of, first_view, JoinFits}
use Rattle.ready_queue.specs.declared.rule.Move.{Move}
use Rattle.ready_queue.specs.History.{QueueLog, held_after, IsQueueHistory}

-- what a pass knows is so: the capacity, a beginning of the history with nothing of its own after it,
-- and its own moves at its firsts
abbrev pub Sees : ℕ → QueueLog → View Move → Type 0
Sees capacity log v =
    (v.name ≡ capacity ∷ []) × AreClasses v.classes × (v.classes ≢ []) × Ahead v.classes v.seen log
    × AtFirsts v.classes log × JoinFits v.told

-- The rule. There is one history, and the ring holds what is held after it. What each pass knows is
-- so, and no seat is of two passes
pub record Kept (items : List EventName) (views : List (View Move)) : Type 0 where
  pub capacity : ℕ
  pub log : QueueLog
  pub legal : IsQueueHistory capacity log
  pub holds : held_after log ≡ items
  pub sights : (j : ℕ) (v : View Move) → get_elem? views j ≡ maths.some v → v.gone ≡ false
      → Sees capacity log v
  pub apart : (i j : ℕ) (v w : View Move) → i ≢ j → get_elem? views i ≡ maths.some v
      → get_elem? views j ≡ maths.some w → v.gone ≡ false → w.gone ≡ false → Apart v.classes w.classes

-- the pass that makes a queue, before it is told the capacity
abbrev pub newcomer : View Move
newcomer = first_view (0 ∷ [])

-- the same number, or another one
abbrev pub or_else : Option ℕ → List ℕ → List ℕ
or_else None name = name
or_else (Some n) name = n ∷ []

-- the pass is told the capacity
abbrev pub made_for : Option ℕ → View Move → View Move
made_for capacity v = record v { name = or_else capacity v.name }

-- this history was seen
abbrev pub saw : QueueLog → View Move → View Move
saw log v = record v { seen = log }

-- the move is the last of a history, which goes on from what was seen by moves of other seats
abbrev pub AddsMove : Move → View Move → View Move → Type 0
AddsMove m v w =
    (between : QueueLog) × (w ≡ saw ((v.seen ++ between) ++ (seat_of v, m) ∷ []) v)
    × Foreign v.classes between × AreClasses v.classes
    × ((capacity : ℕ) → v.name ≡ capacity ∷ [] → IsQueueHistory capacity w.seen)

-- what a look shows, where the ring holds these events: a history that goes on from what was seen by moves of
-- other seats, and what a join was to be told
pub record Learned (v : View Move) (items : List EventName) : Type 0 where
  pub log : QueueLog
  pub ahead : Ahead v.classes v.seen log
  pub legal : (capacity : ℕ) → v.name ≡ capacity ∷ [] → IsQueueHistory capacity log
  pub holds : held_after log ≡ items
  pub fits : JoinFits v.told
  pub are : AreClasses v.classes
  pub firsts : AtFirsts v.classes v.seen
