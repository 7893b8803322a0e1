-- To be believed: the history of a queue, which is what was put and taken, in the order of the steps.
use Rattle.std.specs.Prelude.{◌≡◌, ℕ, ◌<◌, List, [], ◌∷◌, ◌++◌, length}
use Rattle.reg_keys.specs.declared.event.EventName.{EventName}
use Rattle.turn_cell.specs.History.{Log}
use Rattle.ready_queue.specs.declared.rule.Move.{Move}
use Rattle.ready_queue.specs.declared.rule.Move.TheVariants.{Put, Taken}

-- each move with the seat that it was made under
abbrev pub QueueLog : Type 0
QueueLog = Log Move

-- all but the first
abbrev pub behind : List EventName → List EventName
behind [] = []
behind (x ∷ xs) = xs

-- what is held after one move
abbrev pub after : List EventName → Move → List EventName
after held (Put e) = held ++ e ∷ []
after held (Taken e) = behind held

-- what is held after some moves
abbrev pub held_from : List EventName → QueueLog → List EventName
held_from held [] = held
held_from held (m ∷ ms) = held_from (after held m.1) ms

-- the events put less those taken, in the order of putting
abbrev pub held_after : QueueLog → List EventName
held_after log = held_from [] log

-- a put finds fewer than the capacity, and what is taken is the first that is held
abbrev pub MayMove : ℕ → List EventName → Move → Type 0
MayMove capacity held (Put e) = length held < capacity
MayMove capacity held (Taken e) = held ≡ e ∷ behind held

-- each move was allowed where it was made
abbrev pub MayMoveOn : ℕ → List EventName → QueueLog → Type 0
MayMoveOn capacity held [] = Unit {0}
MayMoveOn capacity held (m ∷ ms) = MayMove capacity held m.1 × MayMoveOn capacity (after held m.1) ms

-- the moves are a history of a queue of this capacity, from when it held nothing
abbrev pub IsQueueHistory : ℕ → QueueLog → Type 0
IsQueueHistory capacity log = MayMoveOn capacity [] log

-- the event that a move put, if any
abbrev pub put_of : Move → List EventName
put_of (Put e) = e ∷ []
put_of (Taken e) = []

-- the event that a move took, if any
abbrev pub taken_of : Move → List EventName
taken_of (Put e) = []
taken_of (Taken e) = e ∷ []

-- the events that were put, in order
abbrev pub put_in : QueueLog → List EventName
put_in [] = []
put_in (m ∷ ms) = put_of m.1 ++ put_in ms

-- the events that were taken, in order
abbrev pub taken_in : QueueLog → List EventName
taken_in [] = []
taken_in (m ∷ ms) = taken_of m.1 ++ taken_in ms
