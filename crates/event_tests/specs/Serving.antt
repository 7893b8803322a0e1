-- Inner: what the calls of a run say of the account.
use Rattle.std.specs.Prelude.{ℕ, List, []}
use Rattle.std.specs.Option.{option_to_list}
use Rattle.reg_keys.specs.declared.opening.Opening.{Opening}
use Rattle.reg_keys.specs.declared.event.EventName.{EventName}
use Rattle.event_mgr.specs.Manager.{MgrView}
use Rattle.dispatcher.specs.Firings.{Jobs}
use Rattle.event_tests.specs.declared.calls.Again.{Again}
use Rattle.event_tests.specs.declared.calls.Again.TheVariants.{Waits, Refused}
use Rattle.event_tests.specs.Accounting.{Accounts, Owes}

-- the event that a registration named, if any
abbrev pub events_of_again : Again → List EventName
events_of_again (Waits e) = option_to_list e
events_of_again Refused = []

-- a job that was registered again is in hand no more; one that was refused still is
abbrev pub IsTakenUp : Opening → ℕ → MgrView → Again → MgrView → Type 0
IsTakenUp p n v (Waits e) w =
    (finishes : Opening → ℕ → ℕ) (jobs : Jobs) → Owes p n finishes v jobs → Accounts finishes w jobs
IsTakenUp p n v Refused w =
    (finishes : Opening → ℕ → ℕ) (jobs : Jobs) → Owes p n finishes v jobs → Owes p n finishes w jobs
