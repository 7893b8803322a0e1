-- To be believed: the account of events, where each came from and where it went: what was got and what was
-- held before is what was put, what was dispatched and what is held after.
-- It is kept in weights. With 1 for one event and 0 for the others a weight counts, so an equation of weights
-- that holds for every weight is one of events counted with repeats, in whatever order they come.
use Rattle.std.specs.Prelude.{◌≡◌, ℕ, ◌+◌, ◌≤◌, ◌⊎◌, List, [], ◌++◌, length}
use mathlib.Core.List.{IsPrefix}
use Rattle.reg_keys.specs.declared.event.EventName.{EventName}
use Rattle.turn_cell.specs.declared.view.View.{View}
use Rattle.turn_cell.specs.Weights.{weigh}
use Rattle.turn_cell.specs.History.{entries_in}
use Rattle.turn_cell.specs.View.{own_entries}
use Rattle.ready_queue.specs.declared.rule.Move.{Move}
use Rattle.ready_queue.specs.History.{QueueLog, held_after, IsQueueHistory}
use Rattle.ready_queue.specs.Weights.{weigh_put, weigh_taken}
use Rattle.dispatcher.specs.Entries.{named_by, dispatched_by}
use Rattle.event_mgr.specs.Manager.{MgrView}
use Rattle.dispatcher.specs.Stripes.{HasGrown, weigh_shown}

-- A dispatcher's book: what its passes know of the manager and of the queue, and the events in its hand.
-- Within a turn it also has events that are to be put, and one that is to be dispatched next
pub record Book : Type 0 where
  pub mgr : MgrView
  pub queue : View Move
  pub hand : List EventName
  pub loose : List EventName
  pub next : List EventName

-- the events got: named by its own entries, or taken from the queue
abbrev pub got : (EventName → ℕ) → Book → ℕ
got weight book = weigh_shown named_by weight book.mgr + weigh_taken weight (own_entries book.queue)

-- the events that were dispatched
abbrev pub dispatched : (EventName → ℕ) → Book → ℕ
dispatched weight book = weigh_shown dispatched_by weight book.mgr

-- the events that were taken from the queue
abbrev pub taken : (EventName → ℕ) → Book → ℕ
taken weight book = weigh_taken weight (own_entries book.queue)

-- the events that are held: in the hand, or in between
abbrev pub held : (EventName → ℕ) → Book → ℕ
held weight book = weigh weight book.hand + weigh weight book.loose + weigh weight book.next

-- where events are: put into the queue, dispatched, or held
abbrev pub placed : (EventName → ℕ) → Book → ℕ
placed weight book = weigh_put weight (own_entries book.queue) + dispatched weight book + held weight book

-- From one book to another each event that was got, and each that was held before, was put, dispatched or is
-- held, as often as it was got: what was got in between is what came to be placed
abbrev pub IsBalanced : Book → Book → Type 0
IsBalanced before after =
    (weight : EventName → ℕ)
    → got weight before + placed weight after ≡ placed weight before + got weight after

-- each event that was taken, and each that was to be dispatched, was dispatched or is to be
abbrev pub DispatchesTaken : Book → Book → Type 0
DispatchesTaken before after =
    (weight : EventName → ℕ) → (taken weight after + weigh weight before.next) + dispatched weight before
    ≤ (dispatched weight after + weigh weight after.next) + taken weight before

-- no other event was dispatched
abbrev pub DispatchesNoOther : Book → Book → Type 0
DispatchesNoOther before after =
    (weight : EventName → ℕ) → (taken weight after + weigh weight before.next) + dispatched weight before
    ≡ (dispatched weight after + weigh weight after.next) + taken weight before

-- The queue was at some step between the two views as `P` says. Its history at that step begins with what the
-- pass had seen before, and has no moves of the pass's own but those that it has after
pub record WasWithin (capacity : ℕ) (P : List EventName → Type 0) (v w : View Move) : Type 0 where
  pub log : QueueLog
  pub begins : IsPrefix v.seen log
  pub own : IsPrefix (entries_in v.classes log) (own_entries w)
  pub legal : IsQueueHistory capacity log
  pub was : P (held_after log)

-- the queue was full at a step
abbrev pub WasFullWithin : ℕ → View Move → View Move → Type 0
WasFullWithin capacity v w = WasWithin capacity (λ events. length events ≡ capacity) v w

-- the queue was empty at a step
abbrev pub WasEmptyWithin : ℕ → View Move → View Move → Type 0
WasEmptyWithin capacity v w = WasWithin capacity (λ events. events ≡ []) v w

-- the second list is what is left of the first when some of its front is gone
abbrev pub IsLeftOf : List EventName → List EventName → Type 0
IsLeftOf before after = (front : List EventName) × (before ≡ front ++ after)

-- every event that was got or held was put, but those taken from the queue, and none came into the hand
pub record PutsAll (before after : Book) : Type 0 where
  pub hand : IsLeftOf before.hand after.hand
  pub others : DispatchesNoOther before after

-- From one book to another nothing is lost and nothing is there twice. What was taken from the queue was
-- dispatched. Every other event was put, but where the queue was full at a step in between
pub record IsAccounted (capacity : ℕ) (before after : Book) : Type 0 where
  pub balanced : IsBalanced before after
  pub takes : DispatchesTaken before after
  pub full : WasFullWithin capacity before.queue after.queue ⊎ PutsAll before after
  pub queue : HasGrown before.queue after.queue
