-- To be believed: what a pass knows of the history, and what it did: its calls with their answers, the
-- entries that it made, and what its steps showed.
use Rattle.std.specs.Prelude.{◌≡◌, ℕ, ◌≤◌, List, [], ◌∷◌, ◌++◌, Bool, true, false}
use Rattle.reg_keys.specs.declared.Opening.{Opening}
use Rattle.reg_keys.specs.Tests.{total}
use Rattle.timeout_mgr.specs.declared.view.WatchEntry.{WatchEntry}
use Rattle.timeout_mgr.specs.declared.view.WatchEntry.TheVariants as Entry
use Rattle.timeout_mgr.specs.declared.view.AddOutcome.TheVariants as Adds
use Rattle.timeout_mgr.specs.declared.view.CancelOutcome.{CancelOutcome}
use Rattle.timeout_mgr.specs.declared.view.CancelOutcome.TheVariants as Cancels
use Rattle.timeout_mgr.specs.declared.view.TimeCall.{TimeCall}
use Rattle.timeout_mgr.specs.declared.view.TimeCall.TheVariants.{Add, Tickle, Cancel, Sweep}
use Rattle.timeout_mgr.specs.declared.view.Shown.{Shown}
use Rattle.timeout_mgr.specs.declared.view.Shown.TheVariants.{Decided, Passed, Missed, Saw, Tried, Answered}
use Rattle.timeout_mgr.specs.declared.view.Holding.TheVariants.{Idle}
use Rattle.timeout_mgr.specs.declared.view.TimeView.{TimeView}
use Rattle.timeout_mgr.specs.Watches.{WatchLog, IsWatchHistory}

-- the entry that a step made, if any
abbrev pub entry_of : Shown → WatchLog
entry_of (Decided d) = d ∷ []
entry_of (Passed k n) = []
entry_of (Missed k n m) = []
entry_of (Saw k n) = []
entry_of (Tried k n m) = []
entry_of (Answered c) = []

-- the entries that some steps made, the newest first
abbrev pub entries_in : List Shown → WatchLog
entries_in [] = []
entries_in (item ∷ older) = entry_of item ++ entries_in older

-- the entries that the pass made itself, the newest first
abbrev pub own_entries : TimeView → WatchLog
own_entries v = entries_in v.kept

-- the answer of a cancel that an entry decided
abbrev pub cancel_outcome : Bool → CancelOutcome
cancel_outcome true = Cancels.Cancelled
cancel_outcome false = Cancels.Gone

-- the call that an entry decided, if it decided a whole call
abbrev pub decided_call : WatchEntry → List TimeCall
decided_call (Entry.Added x o) = Add o (Adds.Added x) ∷ []
decided_call (Entry.Tickled x alive) = Tickle x alive ∷ []
decided_call (Entry.Cancelled x alive) = Cancel x (cancel_outcome alive) ∷ []
decided_call (Entry.Swept x given) = []

-- the call that a step ended, if any
abbrev pub call_of : Shown → List TimeCall
call_of (Decided d) = decided_call d
call_of (Passed k n) = []
call_of (Missed k n m) = []
call_of (Saw k n) = []
call_of (Tried k n m) = []
call_of (Answered c) = c ∷ []

-- the calls that some steps ended, in the order of the calls
abbrev pub calls_in : List Shown → List TimeCall
calls_in [] = []
calls_in (item ∷ older) = calls_in older ++ call_of item

-- what the pass did: its calls with their answers, in their order
abbrev pub calls_of : TimeView → List TimeCall
calls_of v = calls_in v.kept

-- the openings that a call's sweep gave
abbrev pub given_by : TimeCall → List Opening
given_by (Add o answer) = []
given_by (Tickle x alive) = []
given_by (Cancel x answer) = []
given_by (Sweep out) = out

-- the openings that the sweeps among some calls gave, in their order
abbrev pub given_in : List TimeCall → List Opening
given_in [] = []
given_in (c ∷ calls) = given_by c ++ given_in calls

-- what a pass had seen is the past of a history
abbrev pub IsPastOf : WatchLog → WatchLog → Type 0
IsPastOf seen log = (later : WatchLog) × (log ≡ later ++ seen)

-- What the pass has seen is a history in which every entry has its answer, and it has all entries that the
-- pass made itself: whatever they weigh, they weigh no more than the history
pub record IsSound (v : TimeView) : Type 0 where
  pub legal : IsWatchHistory v.seen
  pub own : (f : WatchEntry → ℕ) → total f (own_entries v) ≤ total f v.seen

-- what a pass knows at the beginning
abbrev pub first_view : TimeView
first_view = record { seen = []; told = []; kept = []; hand = Idle }
