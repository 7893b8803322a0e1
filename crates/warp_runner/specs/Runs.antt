-- Inner: what a run gives, and how far a connection was brought.
use Rattle.std.specs.Prelude.{◌≡◌, ℕ, ◌≤◌, ◌+◌, List, [], ◌++◌, Option, Some, None, Result, Ok, Err}
use Rattle.std.specs.Option.{option_to_list}
use Rattle.reg_keys.specs.declared.event.EventName.{EventName}
use Rattle.warp_books.specs.declared.finish.Finish.TheVariants.{Ended}
use Rattle.warp_jobs.specs.Held.{Held}
use Rattle.warp_jobs.specs.Sessions.{MayFinish}
use Rattle.warp_jobs.specs.declared.job.Job.{Job}
use Rattle.warp_jobs.specs.declared.job.Job.TheVariants as Jobs
use Rattle.warp_runner.specs.declared.serving.Ran.{Ran}
use Rattle.warp_runner.specs.declared.bringing.Brought.{Brought}
use Rattle.warp_runner.specs.declared.bringing.Brought.TheVariants.{Waits, Over, Spent}
use Rattle.dispatcher.specs.Entries.{Firing}
use Rattle.warp_runner.specs.Acts.{Acts, Did, ServeTold}
use Rattle.warp_runner.specs.Deeds.{IsBroughtOn, poll_fault}
use Rattle.warp_runner.specs.Journal.{IsRun}

-- the events that a run gives
abbrev pub named : Ran → List EventName
named ran = option_to_list ran.first ++ option_to_list ran.second

-- a run names at most one event, and none where it stops the dispatcher
abbrev pub NamesOne : Ran → Type 0
NamesOne ran = (ran.second ≡ None) × ((code : ℕ) → ran.stopped ≡ Some code → ran.first ≡ None)

-- where a dispatcher stops since its poller failed, that was counted
abbrev pub HasFaulted : Option ℕ → ℕ → Type 0
HasFaulted stopped polls = stopped ≡ Some poll_fault → 1 ≤ polls

-- the events that the beginning named
abbrev pub begun_by : {E : Type 0} → Result (Option EventName) E → List EventName
begun_by (Ok event) = option_to_list event
begun_by (Err code) = []

-- the code with which the beginning stopped, if it did
abbrev pub code_of_start : {A : Type 0} → Result A ℕ → Option ℕ
code_of_start (Ok event) = None
code_of_start (Err code) = Some code

-- how far a connection was brought: it waits under the next number, or it is over and may be finished so
abbrev pub HasBrought : Brought → Held → Held → Type 0
HasBrought (Waits dir) h k = IsBroughtOn h k × (k.number ≡ h.number + 1)
HasBrought (Over end) h k = IsBroughtOn h k × (k.number ≡ h.number) × MayFinish (Ended end) k.conn
HasBrought Spent h k = Unit {0}

-- a job that is a connection's
abbrev pub IsServing : {P F L M X : Type 0} → Job P F L M X → Type 0
IsServing (Jobs.Serve session) = Unit {0}
IsServing (Jobs.Listen listening) = ⊥

-- what a job holds that is a connection's
abbrev pub held_in : {P F L M X : Type 0} → Job P F L M X → Option Held
held_in (Jobs.Serve session) = Some session.value
held_in (Jobs.Listen listening) = None

-- a job was run, which made these acts, named these events, and stopped the dispatcher with this code or not
abbrev pub HasRun : ℕ → Firing → ServeTold → List EventName → Option ℕ → ServeTold → Type 0
HasRun limit f u events stopped w = (acts : Acts) × Did u acts events w × IsRun limit f acts stopped
