-- To be believed: what an entry of a stripe's history is to a dispatcher.
use Rattle.std.specs.Prelude.{List, [], ◌∷◌, map}
use Rattle.std.specs.Option.{option_to_list}
use Rattle.reg_keys.specs.declared.opening.Opening.{Opening}
use Rattle.reg_keys.specs.declared.event.EventName.{EventName}
use Rattle.reg_keys.specs.declared.entry.FiredKey.{FiredKey}
use Rattle.reg_keys.specs.declared.entry.Entry.{Entry}
use Rattle.reg_keys.specs.declared.entry.Entry.TheVariants.{Report, Register, Dispatch}
use Rattle.reg_keys.specs.declared.entry.ReportOutcome.TheVariants as Reports
use Rattle.reg_keys.specs.declared.entry.RegisterOutcome.TheVariants as Registers
use Rattle.reg_keys.specs.declared.entry.DispatchOutcome.TheVariants as Dispatches
use Rattle.poller.specs.Polls as Polls

-- the event that the reply named, if any
abbrev pub named_by : Entry → List EventName
named_by (Report o ds (Reports.Noted e)) = option_to_list e
named_by (Register o d m kind (Registers.Waits key e)) = option_to_list e
named_by (Dispatch x (Dispatches.Ran rs e)) = option_to_list e
named_by _ = []

-- the event that was dispatched, where the dispatch wasn't refused
abbrev pub dispatched_by : Entry → List EventName
dispatched_by (Dispatch x Dispatches.Stale) = x ∷ []
dispatched_by (Dispatch x (Dispatches.Ran rs e)) = x ∷ []
dispatched_by _ = []

-- a registration that ran, with the opening of the event that ran it
abbrev pub Firing : Type 0
Firing = Opening × FiredKey

-- what one event ran
abbrev pub firings : Opening → List FiredKey → List Firing
firings o rs = map (λ r. (o, r)) rs

-- what an entry ran
abbrev pub fired_by : Entry → List Firing
fired_by (Dispatch x (Dispatches.Ran rs e)) = firings x.opening rs
fired_by _ = []

-- the opening and the directions that an entry reported
abbrev pub reported_by : Entry → List Polls.Report
reported_by (Report o ds r) = (o, ds) ∷ []
reported_by _ = []

-- the entry is of a call that a run may make: neither a report nor a dispatch
abbrev pub IsOfRun : Entry → Type 0
IsOfRun (Report o ds r) = ⊥
IsOfRun (Dispatch x r) = ⊥
IsOfRun _ = Unit {0}

-- a report or a dispatch that the stripe refused, since its numbers are used up
abbrev pub IsSpentEntry : Entry → Type 0
IsSpentEntry (Report o ds Reports.Spent) = Unit {0}
IsSpentEntry (Dispatch x Dispatches.Spent) = Unit {0}
IsSpentEntry _ = ⊥
