-- To be believed: what the moves of a history weigh, by which the accounts of several passes are added up:
-- with 1 for one event and 0 for the others, a weight counts.
use Rattle.std.specs.Prelude.{ℕ}
use Rattle.reg_keys.specs.declared.event.EventName.{EventName}
use Rattle.turn_cell.specs.Weights.{weigh}
use Rattle.ready_queue.specs.History.{QueueLog, put_of, taken_of}

-- the weight of the events that were put
abbrev pub weigh_put : (EventName → ℕ) → QueueLog → ℕ
weigh_put h log = weigh (λ m. weigh h (put_of m.1)) log

-- the weight of the events that were taken
abbrev pub weigh_taken : (EventName → ℕ) → QueueLog → ℕ
weigh_taken h log = weigh (λ m. weigh h (taken_of m.1)) log
