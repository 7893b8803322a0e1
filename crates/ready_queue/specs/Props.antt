-- Inner: that moves are a history can be shown in one way alone, so that a ghost field may say it.
use Rattle.std.specs.Prelude.{ℕ, List, [], ◌∷◌, refl}
use Rattle.std.specs.Coded.{×_prop, Unit-prop, le_prop, Coded, Coded-set, code_by, coded×, coded_list, coded_ℕ}
use Rattle.reg_keys.specs.declared.event.EventName.{EventName}
use Rattle.ready_queue.specs.declared.rule.Move.{Move}
use Rattle.ready_queue.specs.declared.rule.Move.TheVariants.{Put, Taken}
use Rattle.ready_queue.specs.History.{QueueLog, after, behind, MayMove, MayMoveOn}

-- an event as three numbers
abbrev event_code : Coded EventName
event_code =
    code_by ((ℕ × ℕ) × ℕ) (coded× (coded× coded_ℕ coded_ℕ) coded_ℕ)
    (λ e. ((e.opening.number, e.opening.fd), e.number))
    (λ n. record { opening = record { number = n.0.0; fd = n.0.1 }; number = n.1 }) (λ _. refl)

may_move_prop : (capacity : ℕ) (held : List EventName) (m : Move) → IsProp (MayMove capacity held m)
may_move_prop capacity held (Put e) = le_prop
may_move_prop capacity held (Taken e) = Coded-set (coded_list event_code) held (e ∷ behind held)

pub history_prop : (capacity : ℕ) (held : List EventName) (log : QueueLog)
    → IsProp (MayMoveOn capacity held log)
history_prop capacity held [] = Unit-prop
history_prop capacity held (m ∷ ms) =
    ×_prop (may_move_prop capacity held m.1) (history_prop capacity (after held m.1) ms)
