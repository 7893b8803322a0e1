-- To be believed: what the calls on a queue say, over what their passes know before and after.
use Rattle.std.specs.Prelude.{◌≡◌, ℕ, [], ◌∷◌, ◌++◌, length}
use Rattle.crossbeam_queue.specs.Passes.{view, IsPassOf, ruled_capacity}
use Rattle.reg_keys.specs.declared.event.EventName.{EventName}
use Rattle.turn_cell.specs.declared.view.View.{View}
use Rattle.turn_cell.specs.declared.view.JoinPending.TheVariants.{Nothing}
use Rattle.turn_cell.specs.Classes.{Within}
use Rattle.turn_cell.specs.History.{Foreign, Ahead}
use Rattle.turn_cell.specs.View.{own_entries, seat_of}
use Rattle.ready_queue.specs.declared.rule.Move.{Move}
use Rattle.ready_queue.specs.declared.rule.Move.TheVariants.{Put, Taken}
use Rattle.ready_queue.specs.declared.queue.QPass.{QPass}
use Rattle.ready_queue.specs.declared.queue.ReadyQueue.{ReadyQueue}
use Rattle.ready_queue.specs.declared.queue.PutOut.{PutOut}
use Rattle.ready_queue.specs.declared.queue.PutOut.TheVariants as P
use Rattle.ready_queue.specs.declared.queue.TakeOut.{TakeOut}
use Rattle.ready_queue.specs.declared.queue.TakeOut.TheVariants as T
use Rattle.ready_queue.specs.History.{QueueLog, held_after, IsQueueHistory}
use Rattle.ready_queue.specs.Rule.{saw}

-- a view without what a join was to be told
abbrev pub untold : View Move → View Move
untold v = record v { told = Nothing }

-- what the pass knows: its name is the capacity
abbrev pub view_of : QPass → View Move
view_of p = untold (view p.seat)

-- how many events the queue can hold
abbrev pub capacity_of : ReadyQueue → ℕ
capacity_of q = ruled_capacity q.ring

-- the pass is of the queue, and what it has seen is a history of one of this capacity
abbrev pub IsOf : ReadyQueue → QPass → Type 0
IsOf q p =
    IsPassOf q.ring p.seat × ((view_of p).name ≡ capacity_of q ∷ [])
    × IsQueueHistory (capacity_of q) (view_of p).seen

-- each number is a seat of the pass, so that there is no other pass
abbrev pub HasAllSeats : View Move → Type 0
HasAllSeats v = (n : ℕ) → Within n v.classes

-- The move was made. What the pass then has seen is a history of the queue, which begins with all that it had
-- seen and ends with the move, under the pass's seat; between are moves of other seats alone. So of the
-- pass's own moves it alone is new, and nothing else that it knows has changed
pub record HasMoved (capacity : ℕ) (m : Move) (v w : View Move) : Type 0 where
  pub between : QueueLog
  pub seen : w.seen ≡ (v.seen ++ between) ++ (seat_of v, m) ∷ []
  pub foreign : Foreign v.classes between
  pub own : own_entries w ≡ own_entries v ++ (seat_of v, m) ∷ []
  pub rest : w ≡ saw w.seen v
  pub legal : IsQueueHistory capacity w.seen

-- Nothing was moved. There is a history of the queue that goes on from what the pass has seen by moves of
-- other seats, and that has filled it. Where the pass has all seats, this is the queue's own history at a
-- step of the call, so the queue was full there. Where it lacks a seat there always is such a history, and
-- this says nothing of the queue
pub record WasFull (capacity : ℕ) (v w : View Move) : Type 0 where
  pub same : w ≡ v
  pub log : QueueLog
  pub ahead : Ahead v.classes v.seen log
  pub legal : IsQueueHistory capacity log
  pub full : length (held_after log) ≡ capacity

-- Nothing was moved. There is a history of the queue that goes on from what the pass has seen by moves of
-- other seats, and that has emptied it. Where the pass has all seats, this is the queue's own history at a
-- step of the call, so the queue was empty there. Where it lacks a seat there always is such a history, and
-- this says nothing of the queue
pub record WasEmpty (capacity : ℕ) (v w : View Move) : Type 0 where
  pub same : w ≡ v
  pub log : QueueLog
  pub ahead : Ahead v.classes v.seen log
  pub legal : IsQueueHistory capacity log
  pub empty : held_after log ≡ []

-- what each answer of a put says
abbrev pub HasPut : ℕ → EventName → View Move → PutOut → View Move → Type 0
HasPut capacity e v P.Put w = HasMoved capacity (Put e) v w
HasPut capacity e v (P.Full back) w = (back ≡ e) × WasFull capacity v w

-- what each answer of a take says
abbrev pub HasTaken : ℕ → View Move → TakeOut → View Move → Type 0
HasTaken capacity v (T.Taken e) w = HasMoved capacity (Taken e) v w
HasTaken capacity v T.Empty w = WasEmpty capacity v w
