-- Inner: what the steps at one slot say, of which the calls are made.
use Rattle.std.specs.Prelude.{◌≡◌, ◌≢◌, ℕ, List, [], ◌∷◌, ◌++◌, true, false, Option, Some, None}
use Rattle.reg_keys.specs.declared.Opening.{Opening}
use Rattle.timeout_mgr.specs.declared.view.WatchName.{WatchName}
use Rattle.timeout_mgr.specs.declared.view.WatchEntry.TheVariants.{Added, Cancelled}
use Rattle.timeout_mgr.specs.declared.view.TimeCall.{TimeCall}
use Rattle.timeout_mgr.specs.declared.view.Shown.{Shown}
use Rattle.timeout_mgr.specs.declared.view.Shown.TheVariants.{Tried, Answered}
use Rattle.timeout_mgr.specs.declared.view.TimeView.{TimeView}
use Rattle.timeout_mgr.specs.declared.watch.Watch.{Watch}
use Rattle.timeout_mgr.specs.declared.one_slot.Left.{Left}
use Rattle.timeout_mgr.specs.declared.one_slot.Left.TheVariants as Leave
use Rattle.timeout_mgr.specs.Watches.{WatchLog}
use Rattle.timeout_mgr.specs.Passes.{IsSound, entries_in, calls_in}
use Rattle.timeout_mgr.specs.Shown.{ShowsAlive}
use Rattle.timeout_mgr.specs.Calls.{GoesOn, Decides, IsTakenAt, SweptSlot, name_of_watch}
use Rattle.timeout_mgr.specs.Plays.{end_of}

-- nothing was decided, and no call ended
pub record Stays (items : List Shown) (v w : TimeView) : Type 0 where
  pub goes : GoesOn items v w
  pub entry : entries_in items ≡ []
  pub call : calls_in items ≡ []

-- one exchange of a cancel that named this word
abbrev pub Leaves : WatchName → ℕ → TimeView → Left → TimeView → Type 0
Leaves x n v Leave.Cancelled w = Decides (Cancelled x true) v w
Leaves x n v Leave.Gone w = Decides (Cancelled x false) v w
Leaves x n v (Leave.Lives m) w = Stays (Tried x.slot n m ∷ []) v w × (n ≢ m) × ShowsAlive x.number m

-- an add at one slot
abbrev pub AddsAt : ℕ → Opening → TimeView → Option Watch → TimeView → Type 0
AddsAt k o v (Some x) w = Decides (Added (name_of_watch x) o) v w
AddsAt k o v None w = (items : List Shown) × Stays items v w × IsTakenAt k items

-- A step that showed these items. What it decided, if anything, is the newest of a history in
-- which every entry has its answer
pub record ShowsAll (items : List Shown) (v w : TimeView) : Type 0 where
  pub goes : GoesOn items v w
  pub later : WatchLog
  pub newest : w.seen ≡ entries_in items ++ (later ++ v.seen)
  pub sound : IsSound w

-- a sweep at one slot, which at the last slot ends, by the openings that it gave before
abbrev pub SweepsAt : ℕ → Option (List Opening) → TimeView → Option Opening → TimeView → Type 0
SweepsAt k before v given w =
    (item : Shown) × SweptSlot k given item × ShowsAll (end_of before given ++ item ∷ []) v w

-- the call ended with this answer, which is all that its last step showed
pub record Answers (c : TimeCall) (v w : TimeView) : Type 0 where
  pub goes : GoesOn (Answered c ∷ []) v w
  pub sound : IsSound w
