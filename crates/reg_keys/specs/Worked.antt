-- To be believed: histories worked by hand, by which the definitions themselves are tested.
-- They stand in the order of their entries. Each is of stripe 0 and its descriptor 0, but one that has the
-- descriptor 32 besides, and one of stripe 31 and its last descriptor.
use Rattle.std.specs.Prelude.{ℕ, ◌-◌, ◌*◌, ◌^◌, List, [], ◌∷◌, Some, None}
use Rattle.reg_keys.specs.declared.opening.Opening.{Opening}
use Rattle.reg_keys.specs.declared.event.EventName.{EventName}
use Rattle.reg_keys.specs.declared.registration.Key.{Key}
use Rattle.reg_keys.specs.declared.registration.Dir.TheVariants.{Read, Write}
use Rattle.reg_keys.specs.declared.registration.Dirs.TheVariants as Named
use Rattle.reg_keys.specs.declared.registration.Marks.{Marks}
use Rattle.reg_keys.specs.declared.entry.LoadKind.{LoadKind}
use Rattle.reg_keys.specs.declared.entry.LoadKind.TheVariants.{Job, Flag}
use Rattle.reg_keys.specs.declared.entry.OpenOutcome.TheVariants as Opens
use Rattle.reg_keys.specs.declared.entry.ReportOutcome.TheVariants as Reports
use Rattle.reg_keys.specs.declared.entry.RegisterOutcome.TheVariants as Registers
use Rattle.reg_keys.specs.declared.entry.WithdrawOutcome.TheVariants as Withdraws
use Rattle.reg_keys.specs.declared.entry.AskOutcome.TheVariants as Asks
use Rattle.reg_keys.specs.declared.entry.DispatchOutcome.TheVariants as Dispatches
use Rattle.reg_keys.specs.declared.entry.CloseOutcome.TheVariants as Closes
use Rattle.reg_keys.specs.declared.entry.Entry.{Entry}
use Rattle.reg_keys.specs.declared.entry.Entry.TheVariants.{Open, Report, Register, Withdraw, Ask, Dispatch}
use Rattle.reg_keys.specs.declared.entry.Entry.TheVariants.{Close}

-- the opening of descriptor 0 with this number
abbrev pub o : ℕ → Opening
o n = record { number = n; fd = 0 }

-- the key with this number
abbrev pub k : ℕ → Key
k n = record { number = n }

-- the event with this number, of the opening with that one
abbrev pub event : ℕ → ℕ → EventName
event n m = record { number = n; opening = o m }

-- the marks to read and to write
abbrev pub marks : ℕ → ℕ → Marks
marks r w = record { read = r; write = w }

-- a job with the tag 1
abbrev pub A : LoadKind
A = Job ((1 ∷ []) ∷ [])

-- a job with the tag 2
abbrev pub B : LoadKind
B = Job ((2 ∷ []) ∷ [])

-- an opening's event doesn't run what is registered under the next opening of the descriptor
abbrev pub a_late_event_is_stale : List Entry
a_late_event_is_stale =
    Open 0 (Opens.Opened (o 32))
    ∷ Register (o 32) Read None A (Registers.Waits (k 64) (Some (event 96 32)))
    ∷ Report (o 32) Named.Both (Reports.Noted None)
    ∷ Close (o 32) (Closes.Shut (record { key = k 64; kind = A } ∷ []))
    ∷ Open 0 (Opens.Opened (o 160))
    ∷ Register (o 160) Read None B (Registers.Waits (k 192) (Some (event 224 160)))
    ∷ Dispatch (event 96 32) Dispatches.Stale
    ∷ Dispatch (event 224 160)
    (Dispatches.Ran (record { key = k 192; dir = Read; marks = marks 160 160; kind = B } ∷ []) None)
    ∷ []

-- a dispatch names an event for the direction that it didn't run
abbrev pub the_other_direction_is_named : List Entry
the_other_direction_is_named =
    Open 0 (Opens.Opened (o 32))
    ∷ Register (o 32) Read None A (Registers.Waits (k 64) (Some (event 96 32)))
    ∷ Register (o 32) Write None B (Registers.Waits (k 128) None)
    ∷ Dispatch (event 96 32)
    (Dispatches.Ran (record { key = k 64; dir = Read; marks = marks 32 32; kind = A } ∷ [])
    (Some (event 160 32)))
    ∷ Dispatch (event 160 32)
    (Dispatches.Ran (record { key = k 128; dir = Write; marks = marks 32 32; kind = B } ∷ []) None)
    ∷ []

-- an event runs the directions that were due as it was named, and the next one the others
abbrev pub an_event_runs_its_directions : List Entry
an_event_runs_its_directions =
    Open 0 (Opens.Opened (o 32))
    ∷ Register (o 32) Write (Some 32) A (Registers.Waits (k 64) None)
    ∷ Register (o 32) Read None B (Registers.Waits (k 96) (Some (event 128 32)))
    ∷ Report (o 32) Named.Write (Reports.Noted None)
    ∷ Dispatch (event 128 32)
    (Dispatches.Ran (record { key = k 96; dir = Read; marks = marks 32 160; kind = B } ∷ [])
    (Some (event 192 32)))
    ∷ Dispatch (event 192 32)
    (Dispatches.Ran (record { key = k 64; dir = Write; marks = marks 32 160; kind = A } ∷ []) None)
    ∷ []

-- an event runs no key that is younger than itself
abbrev pub an_event_runs_older_keys : List Entry
an_event_runs_older_keys =
    Open 0 (Opens.Opened (o 32))
    ∷ Register (o 32) Read None A (Registers.Waits (k 64) (Some (event 96 32)))
    ∷ Register (o 32) Read None B (Registers.Waits (k 128) None)
    ∷ Dispatch (event 96 32)
    (Dispatches.Ran (record { key = k 64; dir = Read; marks = marks 32 32; kind = A } ∷ [])
    (Some (event 160 32)))
    ∷ Dispatch (event 160 32)
    (Dispatches.Ran (record { key = k 128; dir = Read; marks = marks 32 32; kind = B } ∷ []) None)
    ∷ []

-- an event that isn't out runs nothing, and leaves the one that is
abbrev pub a_forged_event_runs_nothing : List Entry
a_forged_event_runs_nothing =
    Open 0 (Opens.Opened (o 32))
    ∷ Register (o 32) Read None A (Registers.Waits (k 64) (Some (event 96 32)))
    ∷ Dispatch (event 160 32) (Dispatches.Ran [] None)
    ∷ Dispatch (event 96 32)
    (Dispatches.Ran (record { key = k 64; dir = Read; marks = marks 32 32; kind = A } ∷ []) None)
    ∷ Dispatch (event 96 32) (Dispatches.Ran [] None)
    ∷ []

-- an event of another opening that has the number of one that is out leaves it out
abbrev pub a_forged_event_takes_none_out : List Entry
a_forged_event_takes_none_out =
    Open 0 (Opens.Opened (o 32))
    ∷ Open 32 (Opens.Opened (record { number = 64; fd = 32 }))
    ∷ Register (o 32) Read None A (Registers.Waits (k 96) (Some (event 128 32)))
    ∷ Dispatch (record { number = 128; opening = record { number = 64; fd = 32 } }) (Dispatches.Ran [] None)
    ∷ Report (o 32) Named.Read (Reports.Noted None)
    ∷ Dispatch (event 128 32)
    (Dispatches.Ran (record { key = k 96; dir = Read; marks = marks 160 32; kind = A } ∷ []) None)
    ∷ []

-- a registration that names an old mark finds the report that came since
abbrev pub an_old_mark_finds_the_report : List Entry
an_old_mark_finds_the_report =
    Open 0 (Opens.Opened (o 32))
    ∷ Report (o 32) Named.Read (Reports.Noted None)
    ∷ Register (o 32) Read (Some 32) A (Registers.Waits (k 96) (Some (event 128 32)))
    ∷ []

-- a registration that names the mark of now waits for the next report
abbrev pub the_mark_of_now_waits : List Entry
the_mark_of_now_waits =
    Open 0 (Opens.Opened (o 32))
    ∷ Register (o 32) Read (Some 32) A (Registers.Waits (k 64) None)
    ∷ Report (o 32) Named.Read (Reports.Noted (Some (event 128 32)))
    ∷ []

-- a flag's owner is told once that it ran
abbrev pub a_flag_is_told_once : List Entry
a_flag_is_told_once =
    Open 0 (Opens.Opened (o 32))
    ∷ Register (o 32) Read (Some 32) Flag (Registers.Waits (k 64) None)
    ∷ Ask (k 64) Asks.Waiting
    ∷ Report (o 32) Named.Read (Reports.Noted (Some (event 128 32)))
    ∷ Dispatch (event 128 32)
    (Dispatches.Ran (record { key = k 64; dir = Read; marks = marks 96 32; kind = Flag } ∷ []) None)
    ∷ Ask (k 64) (Asks.Ran Read (marks 96 32))
    ∷ Ask (k 64) Asks.Unknown
    ∷ []

-- a flag whose opening closes is told so once
abbrev pub a_closed_flag_is_told_once : List Entry
a_closed_flag_is_told_once =
    Open 0 (Opens.Opened (o 32))
    ∷ Register (o 32) Read (Some 32) Flag (Registers.Waits (k 64) None)
    ∷ Close (o 32) (Closes.Shut (record { key = k 64; kind = Flag } ∷ []))
    ∷ Ask (k 64) Asks.Closed
    ∷ Ask (k 64) Asks.Unknown
    ∷ []

-- a flag that has run keeps its place until it is asked
abbrev pub a_fired_flag_keeps_its_place : List Entry
a_fired_flag_keeps_its_place =
    Open 0 (Opens.Opened (o 32))
    ∷ Register (o 32) Read None Flag (Registers.Waits (k 64) (Some (event 96 32)))
    ∷ Dispatch (event 96 32)
    (Dispatches.Ran (record { key = k 64; dir = Read; marks = marks 32 32; kind = Flag } ∷ []) None)
    ∷ Register (o 32) Write (Some 32) A (Registers.Waits (k 128) None)
    ∷ Register (o 32) Write (Some 32) A (Registers.Waits (k 160) None)
    ∷ Register (o 32) Write (Some 32) B (Registers.Waits (k 192) None)
    ∷ Register (o 32) Write (Some 32) B Registers.Crowded
    ∷ Ask (k 64) (Asks.Ran Read (marks 32 32))
    ∷ Register (o 32) Write (Some 32) B (Registers.Waits (k 224) None)
    ∷ []

-- a flag is given back without a job, and then isn't known
abbrev pub a_flag_is_given_back : List Entry
a_flag_is_given_back =
    Open 0 (Opens.Opened (o 32))
    ∷ Register (o 32) Read (Some 32) Flag (Registers.Waits (k 64) None)
    ∷ Withdraw (k 64) (Withdraws.Back Flag)
    ∷ Ask (k 64) Asks.Unknown
    ∷ Withdraw (k 64) Withdraws.Gone
    ∷ []

-- a job is given back once
abbrev pub a_job_is_given_back_once : List Entry
a_job_is_given_back_once =
    Open 0 (Opens.Opened (o 32))
    ∷ Register (o 32) Read (Some 32) A (Registers.Waits (k 64) None)
    ∷ Withdraw (k 64) (Withdraws.Back A)
    ∷ Withdraw (k 64) Withdraws.Gone
    ∷ []

-- a fifth registration finds no place; what is open is taken, and what is closed is refused
abbrev pub refusals : List Entry
refusals =
    Open 0 (Opens.Opened (o 32))
    ∷ Register (o 32) Read (Some 32) A (Registers.Waits (k 64) None)
    ∷ Register (o 32) Read (Some 32) B (Registers.Waits (k 96) None)
    ∷ Register (o 32) Read None Flag (Registers.Waits (k 128) None)
    ∷ Register (o 32) Read None Flag (Registers.Waits (k 160) None)
    ∷ Register (o 32) Read None A Registers.Crowded
    ∷ Open 0 (Opens.Taken (o 32))
    ∷ Close (o 32)
    (Closes.Shut (record { key = k 64; kind = A } ∷ record { key = k 96; kind = B }
    ∷ record { key = k 128; kind = Flag } ∷ record { key = k 160; kind = Flag } ∷ []))
    ∷ Close (o 32) Closes.NotOpen
    ∷ Report (o 32) Named.Both Reports.Stale
    ∷ Register (o 32) Read None A Registers.Shut
    ∷ []

-- no number is left at this count
abbrev pub nothing_is_left : List Entry
nothing_is_left = Open 0 Opens.Spent ∷ []

-- the last number is drawn, and then none is left
abbrev pub the_last_number : List Entry
the_last_number =
    Open 0 (Opens.Opened (o (32 * (2 ^ 50 - 2))))
    ∷ Register (o (32 * (2 ^ 50 - 2))) Read None A Registers.Spent
    ∷ []

-- the opening of the last descriptor, in stripe 31, with this number
abbrev pub last : ℕ → Opening
last n = record { number = n; fd = 4095 }

-- the last stripe draws its own numbers, a report's among them, and its last descriptor is opened and found
abbrev pub the_last_descriptor : List Entry
the_last_descriptor =
    Open 4095 (Opens.Opened (last 63))
    ∷ Register (last 63) Read None A
    (Registers.Waits (k 95) (Some (record { number = 127; opening = last 63 })))
    ∷ Report (last 63) Named.Both (Reports.Noted None)
    ∷ Open 4095 (Opens.Taken (last 63))
    ∷ Dispatch (record { number = 127; opening = last 63 })
    (Dispatches.Ran (record { key = k 95; dir = Read; marks = marks 159 159; kind = A } ∷ []) None)
    ∷ Close (last 63) (Closes.Shut [])
    ∷ Open 4095 (Opens.Opened (last 191))
    ∷ Report (last 63) Named.Read Reports.Stale
    ∷ []
