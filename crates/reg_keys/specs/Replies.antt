-- To be believed: the one reply that each call must have after a past, and the histories
-- in which each call has it.
use Rattle.std.specs.Prelude.{◌≡◌, ℕ, ◌+◌, ◌-◌, ◌^◌, ◌&&◌, ◌||◌, not, nat_lt, nat_le, List, [], ◌∷◌, map}
use Rattle.std.specs.Prelude.{filter, length, true, false, Bool, Option, Some, None, if◌then◌else◌}
use Rattle.std.specs.List.{list_any}
use Rattle.reg_keys.specs.declared.opening.Opening.{Opening}
use Rattle.reg_keys.specs.declared.event.EventName.{EventName}
use Rattle.reg_keys.specs.declared.registration.Key.{Key}
use Rattle.reg_keys.specs.declared.registration.Dir.{Dir}
use Rattle.reg_keys.specs.declared.registration.Dir.TheVariants.{Read, Write}
use Rattle.reg_keys.specs.declared.registration.Dirs.{Dirs}
use Rattle.reg_keys.specs.declared.registration.Marks.{Marks}
use Rattle.reg_keys.specs.declared.entry.LoadKind.{LoadKind}
use Rattle.reg_keys.specs.declared.entry.LoadKind.TheVariants.{Job, Flag}
use Rattle.reg_keys.specs.declared.entry.FiredKey.{FiredKey}
use Rattle.reg_keys.specs.declared.entry.ShutKey.{ShutKey}
use Rattle.reg_keys.specs.declared.entry.OpenOutcome.{OpenOutcome}
use Rattle.reg_keys.specs.declared.entry.OpenOutcome.TheVariants as Opens
use Rattle.reg_keys.specs.declared.entry.ReportOutcome.{ReportOutcome}
use Rattle.reg_keys.specs.declared.entry.ReportOutcome.TheVariants as Reports
use Rattle.reg_keys.specs.declared.entry.RegisterOutcome.{RegisterOutcome}
use Rattle.reg_keys.specs.declared.entry.RegisterOutcome.TheVariants as Registers
use Rattle.reg_keys.specs.declared.entry.WithdrawOutcome.{WithdrawOutcome}
use Rattle.reg_keys.specs.declared.entry.WithdrawOutcome.TheVariants as Withdraws
use Rattle.reg_keys.specs.declared.entry.AskOutcome.{AskOutcome}
use Rattle.reg_keys.specs.declared.entry.AskOutcome.TheVariants as Asks
use Rattle.reg_keys.specs.declared.entry.DispatchOutcome.{DispatchOutcome}
use Rattle.reg_keys.specs.declared.entry.DispatchOutcome.TheVariants as Dispatches
use Rattle.reg_keys.specs.declared.entry.CloseOutcome.{CloseOutcome}
use Rattle.reg_keys.specs.declared.entry.CloseOutcome.TheVariants as Closes
use Rattle.reg_keys.specs.declared.entry.Entry.{Entry}
use Rattle.reg_keys.specs.declared.entry.Entry.TheVariants.{Open, Report, Register, Withdraw, Ask, Dispatch}
use Rattle.reg_keys.specs.declared.entry.Entry.TheVariants.{Close}
use Rattle.reg_keys.specs.Tests.{same, same_key, same_event, how_many}
use Rattle.reg_keys.specs.Histories.{count_after, next_number, owner_of, is_live, marks_of, Registered}
use Rattle.reg_keys.specs.Histories.{waiting, has_due, EventOut, is_of, events_out, Standing, StillWaits}
use Rattle.reg_keys.specs.Histories.{HasRun, WasShut, Unasked, unasked, is_fired}

-- the numbers of a stripe are at their end
abbrev pub is_spent : ℕ → List Entry → Bool
is_spent c past = nat_le (2 ^ 50 - 1) (count_after c past)

-- some event of this opening is out
abbrev pub has_out : ℕ → ℕ → List Entry → Opening → Bool
has_out s c past o = list_any (is_of o) (events_out s c past)

-- the event that a call names for an opening: a new one exactly where, after the call, a key of the opening
-- is due and no event of it is out. The call is the latest entry, and names none there yet.
abbrev pub event_named : ℕ → ℕ → List Entry → Opening → Option EventName
event_named s c past o =
    if has_due s c past o && not (has_out s c past o)
    then Some (record { number = next_number s c past; opening = o }) else None

-- ---- opening

-- a descriptor that has an opening is taken
abbrev pub opened_unless : Option Opening → OpenOutcome → OpenOutcome
opened_unless (Some o) reply = Opens.Taken o
opened_unless None reply = reply

-- what `Open` answers
abbrev pub open_reply : ℕ → ℕ → List Entry → ℕ → OpenOutcome
open_reply s c past fd =
    opened_unless (owner_of past fd) (if is_spent c past then Opens.Spent
    else Opens.Opened (record { number = next_number s c past; fd = fd }))

-- ---- reporting

-- what `Report` answers
abbrev pub report_reply : ℕ → ℕ → List Entry → Opening → Dirs → ReportOutcome
report_reply s c past o ds =
    if not (is_live past o) then Reports.Stale
    else (if is_spent c past then Reports.Spent
    else Reports.Noted (event_named s c (Report o ds (Reports.Noted None) ∷ past) o))

-- ---- registering

-- the places of an opening: its registrations that wait, and its flags that fired and are unasked
abbrev pub places_taken : List Entry → Opening → ℕ
places_taken past o =
    how_many (λ (w : Registered). same o w.opening) (waiting past)
    + how_many (λ (f : Unasked). same o f.opening && is_fired f.standing) (unasked past)

-- the load is a flag
abbrev pub is_flag : LoadKind → Bool
is_flag (Job tag) = false
is_flag Flag = true

-- no place is left for this load
abbrev pub is_crowded : List Entry → Opening → LoadKind → Bool
is_crowded past o kind =
    nat_le 4 (places_taken past o) || (is_flag kind && nat_le 512 (length (unasked past)))

-- what `Register` answers
abbrev pub register_reply : ℕ → ℕ → List Entry → Opening → Dir → Option ℕ → LoadKind → RegisterOutcome
register_reply s c past o d m kind =
    if not (is_live past o) then Registers.Shut
    else (if is_crowded past o kind then Registers.Crowded
    else (if is_spent c past then Registers.Spent
    else (let key : Key = record { number = next_number s c past } in
    Registers.Waits key (event_named s c (Register o d m kind (Registers.Waits key None) ∷ past) o))))

-- ---- withdrawing

-- the load of the registration that was found
abbrev pub first_back : List Registered → WithdrawOutcome
first_back [] = Withdraws.Gone
first_back (w ∷ ws) = Withdraws.Back w.kind

-- what `Withdraw` answers
abbrev pub withdraw_reply : List Entry → Key → WithdrawOutcome
withdraw_reply past k = first_back (filter (λ (w : Registered). same_key w.key k) (waiting past))

-- ---- asking

-- what a flag's owner is told
abbrev pub told : Standing → AskOutcome
told StillWaits = Asks.Waiting
told (HasRun d m) = Asks.Ran d m
told WasShut = Asks.Closed

-- what the owner of the flag that was found is told
abbrev pub first_told : List Unasked → AskOutcome
first_told [] = Asks.Unknown
first_told (f ∷ fs) = told f.standing

-- what `Ask` answers
abbrev pub ask_reply : List Entry → Key → AskOutcome
ask_reply past k = first_told (filter (λ (f : Unasked). same_key f.key k) (unasked past))

-- ---- dispatching

-- the event was named with this direction
abbrev pub dir_out : EventOut → Dir → Bool
dir_out x Read = x.read
dir_out x Write = x.write

-- the event is out with this direction
abbrev pub event_has : ℕ → ℕ → List Entry → EventName → Dir → Bool
event_has s c past e d =
    list_any (λ (x : EventOut). same_event e x.event && dir_out x d) (events_out s c past)

-- an event runs the waiting keys of its opening that are smaller than its number and whose direction it has
abbrev pub fires : ℕ → ℕ → List Entry → EventName → Registered → Bool
fires s c past e w = same e.opening w.opening && nat_lt w.key.number e.number && event_has s c past e w.dir

-- a registration that ran, as the Ran list shows it
abbrev pub fired_as : Marks → Registered → FiredKey
fired_as m w = record { key = w.key; dir = w.dir; marks = m; kind = w.kind }

-- what `Dispatch` answers
abbrev pub dispatch_reply : ℕ → ℕ → List Entry → EventName → DispatchOutcome
dispatch_reply s c past e =
    if not (is_live past e.opening) then Dispatches.Stale
    else (if is_spent c past then Dispatches.Spent
    else (let ran : List FiredKey =
    map (fired_as (marks_of s c past e.opening)) (filter (fires s c past e) (waiting past)) in
    Dispatches.Ran ran (event_named s c (Dispatch e (Dispatches.Ran ran None) ∷ past) e.opening)))

-- ---- closing

-- a registration that was shut, as the Shut list shows it
abbrev pub shut_as : Registered → ShutKey
shut_as w = record { key = w.key; kind = w.kind }

-- what `Close` answers
abbrev pub close_reply : List Entry → Opening → CloseOutcome
close_reply past o =
    if not (is_live past o) then Closes.NotOpen
    else Closes.Shut (map shut_as (filter (λ (w : Registered). same o w.opening) (waiting past)))

-- ---- whole histories

-- the call of an entry with the one reply that it must have after a past
abbrev pub reply_of : ℕ → ℕ → List Entry → Entry → Entry
reply_of s c past (Open fd r) = Open fd (open_reply s c past fd)
reply_of s c past (Report o ds r) = Report o ds (report_reply s c past o ds)
reply_of s c past (Register o d m kind r) = Register o d m kind (register_reply s c past o d m kind)
reply_of s c past (Withdraw key r) = Withdraw key (withdraw_reply past key)
reply_of s c past (Ask key r) = Ask key (ask_reply past key)
reply_of s c past (Dispatch e r) = Dispatch e (dispatch_reply s c past e)
reply_of s c past (Close o r) = Close o (close_reply past o)

-- each entry has the reply that it must have after the entries before it
abbrev pub IsLegal : ℕ → ℕ → List Entry → Type 0
IsLegal s c [] = Unit {0}
IsLegal s c (e ∷ past) = IsLegal s c past × (e ≡ reply_of s c past e)
