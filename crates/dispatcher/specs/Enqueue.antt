-- Inner: what becomes of an event that was named: it is put, or kept in the hand.
use Rattle.std.specs.Prelude.{◌≡◌, ℕ, ◌⊎◌, List, [], ◌∷◌, ◌++◌, Option, Some, None}
use Rattle.reg_keys.specs.declared.event.EventName.{EventName}
use Rattle.turn_cell.specs.declared.view.View.{View}
use Rattle.ready_queue.specs.declared.rule.Move.{Move}
use Rattle.ready_queue.specs.declared.rule.Move.TheVariants.{Put}
use Rattle.ready_queue.specs.Calls.{HasMoved, WasFull}

-- the event was put, or the queue was full and it is the last in the hand
abbrev pub IsPutOrKept : ℕ → EventName → View Move → List EventName → View Move → List EventName → Type 0
IsPutOrKept capacity e v xs w ys =
    (HasMoved capacity (Put e) v w × (ys ≡ xs)) ⊎ (WasFull capacity v w × (ys ≡ xs ++ e ∷ []))

-- the same of an event that there may be
abbrev pub IsPutOrKeptAny : ℕ → Option EventName → View Move → List EventName → View Move
    → List EventName → Type 0
IsPutOrKeptAny capacity None v xs w ys = (w ≡ v) × (ys ≡ xs)
IsPutOrKeptAny capacity (Some e) v xs w ys = IsPutOrKept capacity e v xs w ys
