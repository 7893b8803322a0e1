-- To be believed: what the calls say, over what their pass knows before and after.
use Rattle.std.specs.Prelude.{◌≡◌, ◌≢◌, ℕ, ◌+◌, ◌*◌, ◌/◌, ◌%◌, ◌⊎◌, List, [], ◌∷◌, ◌++◌, true, false, Option}
use Rattle.std.specs.Prelude.{Some, None, zero, suc}
use Rattle.reg_keys.specs.declared.Opening.{Opening}
use Rattle.timeout_mgr.specs.declared.view.WatchName.{WatchName}
use Rattle.timeout_mgr.specs.declared.view.WatchEntry.{WatchEntry}
use Rattle.timeout_mgr.specs.declared.view.WatchEntry.TheVariants as Entry
use Rattle.timeout_mgr.specs.declared.view.AddOutcome.TheVariants as AddAnswer
use Rattle.timeout_mgr.specs.declared.view.CancelOutcome.TheVariants as CancelAnswer
use Rattle.timeout_mgr.specs.declared.view.TimeCall.{TimeCall}
use Rattle.timeout_mgr.specs.declared.view.TimeCall.TheVariants as Call
use Rattle.timeout_mgr.specs.declared.view.Shown.{Shown}
use Rattle.timeout_mgr.specs.declared.view.Shown.TheVariants.{Decided, Passed, Missed, Saw, Tried, Answered}
use Rattle.timeout_mgr.specs.declared.view.TimeView.{TimeView}
use Rattle.timeout_mgr.specs.declared.timeouts.TimePass.{TimePass}
use Rattle.timeout_mgr.specs.declared.timeouts.Timeouts.{Timeouts}
use Rattle.timeout_mgr.specs.declared.watch.Watch.{Watch}
use Rattle.timeout_mgr.specs.declared.watch.TickleOut.{TickleOut}
use Rattle.timeout_mgr.specs.declared.watch.TickleOut.TheVariants as Tickle
use Rattle.timeout_mgr.specs.declared.watch.CancelOut.{CancelOut}
use Rattle.timeout_mgr.specs.declared.watch.CancelOut.TheVariants as Cancel
use Rattle.timeout_mgr.specs.declared.watch.AddWatch.{AddWatch}
use Rattle.timeout_mgr.specs.declared.watch.AddWatch.TheVariants as Add
use Rattle.timeout_mgr.specs.Watches.{WatchLog}
use Rattle.timeout_mgr.specs.Shown.{free_word, active_word, inactive_word, ShowsAlive, IsTaken}
use Rattle.timeout_mgr.specs.Passes.{IsPastOf, IsSound, entries_in, calls_of, decided_call}

-- what the pass knows
abbrev pub view_of : TimePass → TimeView
view_of p = p.seat.me.0

-- the pass is of this manager
abbrev pub IsOf : Timeouts → TimePass → Type 0
IsOf t p = p.seat.table_id ≡ t.table.shared.table_id

-- the watch's slot, and the number of its use there
abbrev pub name_of_watch : Watch → WatchName
name_of_watch w = record { slot = w.slot; number = w.number }

-- What the pass knows goes on: its steps showed these items, and what it has seen goes
-- on from what it had seen
pub record GoesOn (items : List Shown) (v w : TimeView) : Type 0 where
  pub kept : w.kept ≡ items ++ v.kept
  pub onward : IsPastOf v.seen w.seen

-- The call made this entry and no other. It is the newest of a history in which every entry has its answer,
-- and that history goes on from what the pass had seen
pub record Decides (d : WatchEntry) (v w : TimeView) : Type 0 where
  pub items : List Shown
  pub goes : GoesOn items v w
  pub entry : entries_in items ≡ d ∷ []
  pub call : calls_of w ≡ calls_of v ++ decided_call d
  pub later : WatchLog
  pub newest : w.seen ≡ d ∷ (later ++ v.seen)
  pub sound : IsSound w

-- the call made no entry, and its steps showed these items
pub record DecidesNothing (c : TimeCall) (items : List Shown) (v w : TimeView) : Type 0 where
  pub goes : GoesOn (Answered c ∷ items) v w
  pub entry : entries_in items ≡ []
  pub call : calls_of w ≡ calls_of v ++ c ∷ []
  pub sound : IsSound w

-- what was shown of one slot: a word that shows it taken, or a free word and then another word,
-- which one only has after a use
abbrev pub IsTakenAt : ℕ → List Shown → Type 0
IsTakenAt k items = ((n : ℕ) × (items ≡ Saw k n ∷ []) × IsTaken n)
    ⊎ ((n : ℕ) × (uses : ℕ) × (n ≢ free_word uses) × (items ≡ Saw k n ∷ Saw k (free_word uses) ∷ []))

-- the slot at this place of the round in which adds look at the slots
abbrev pub slot_at : ℕ → ℕ
slot_at place = place % 512 * 8 + place / 512

-- the same of the slots at as many places in a row, from the first one on and round the
-- table, each once, the last one first
unfoldable pub AreTaken : ℕ → ℕ → List Shown → Type 0
AreTaken first zero items = items ≡ []
AreTaken first (suc count) items = (newer : List Shown) × (older : List Shown) × (items ≡ newer ++ older)
    × AreTaken first count older × IsTakenAt (slot_at ((first + count) % 4096)) newer

-- an add: it made its watch, or looked at each of the 4,096 slots once and saw it taken
abbrev pub HasAdded : Opening → TimeView → AddWatch → TimeView → Type 0
HasAdded o v (Add.Added x) w = Decides (Entry.Added (name_of_watch x) o) v w
HasAdded o v Add.Full w = (first : ℕ) × (items : List Shown) × AreTaken first 4096 items
    × DecidesNothing (Call.Add o AddAnswer.Full) items v w

-- a tickle: whether the watch lives
abbrev pub HasTickled : WatchName → TimeView → TickleOut → TimeView → Type 0
HasTickled x v Tickle.Alive w = Decides (Entry.Tickled x true) v w
HasTickled x v Tickle.Gone w = Decides (Entry.Tickled x false) v w

-- each of three exchanges named the word that the step before it had found, and found another; in each
-- of these words the watch lives
pub record WereInTheWay (x : WatchName) (items : List Shown) : Type 0 where
  pub first : ℕ
  pub second : ℕ
  pub third : ℕ
  pub fourth : ℕ
  pub items_are : items
      ≡ Tried x.slot third fourth ∷ Tried x.slot second third ∷ Tried x.slot first second
      ∷ Saw x.slot first ∷ []
  pub others : (second ≢ first) × (third ≢ second) × (fourth ≢ third)
  pub alive : ShowsAlive x.number first × ShowsAlive x.number second × ShowsAlive x.number third
      × ShowsAlive x.number fourth

-- a cancel: whether the watch lived until then, or the watch itself where others were in the way
abbrev pub HasCancelled : Watch → TimeView → CancelOut → TimeView → Type 0
HasCancelled x v Cancel.Cancelled w = Decides (Entry.Cancelled (name_of_watch x) true) v w
HasCancelled x v Cancel.Gone w = Decides (Entry.Cancelled (name_of_watch x) false) v w
HasCancelled x v (Cancel.Again y) w = (y ≡ x)
    × ((items : List Shown) × WereInTheWay (name_of_watch x) items
    × DecidesNothing (Call.Cancel (name_of_watch x) CancelAnswer.Again) items v w)

-- What a sweep shows of one slot, with the opening where it gave it: its watch aged, its watch
-- ended and its opening was given, a load found no watch that lives, or an exchange found
-- another word than the load before it
abbrev pub SweptSlot : ℕ → Option Opening → Shown → Type 0
SweptSlot k given item =
    ((number : ℕ) × (item ≡ Decided (Entry.Swept (record { slot = k; number = number }) None))
    × (given ≡ None))
    ⊎ ((number : ℕ) × (o : Opening)
    × (item ≡ Decided (Entry.Swept (record { slot = k; number = number }) (Some o)))
    × (given ≡ Some o))
    ⊎ ((n : ℕ) × ((number : ℕ) → (n ≢ active_word number) × (n ≢ inactive_word number)) × (item ≡ Passed k n)
    × (given ≡ None))
    ⊎ ((n : ℕ) × (m : ℕ) × (m ≢ n) × (item ≡ Missed k n m) × (given ≡ None))

-- the opening that was given, if any
abbrev pub list_of : Option Opening → List Opening
list_of None = []
list_of (Some o) = o ∷ []

-- the same of each of these slots, from slot 0 on, one item each, the last one first, and the openings that
-- were given, the first one first
unfoldable pub IsRound : ℕ → List Shown → List Opening → Type 0
IsRound zero items out = (items ≡ []) × (out ≡ [])
IsRound (suc k) items out =
    (item : Shown) × (older : List Shown) × (given : Option Opening) × (before : List Opening)
    × (items ≡ item ∷ older) × (out ≡ before ++ list_of given) × SweptSlot k given item
    × IsRound k older before

-- a sweep: one item for each of the 4,096 slots, and the openings that it gave
pub record HasSwept (v : TimeView) (out : List Opening) (w : TimeView) : Type 0 where
  pub items : List Shown
  pub round : IsRound 4096 items out
  pub goes : GoesOn (Answered (Call.Sweep out) ∷ items) v w
  pub call : calls_of w ≡ calls_of v ++ Call.Sweep out ∷ []
  pub sound : IsSound w

-- Two passes were made one: what either had seen is the past of what it has seen, and it did
-- what both did, the other's first
pub record IsJoined (v o w : TimeView) : Type 0 where
  pub onward : IsPastOf v.seen w.seen
  pub other : IsPastOf o.seen w.seen
  pub kept : w.kept ≡ v.kept ++ o.kept
  pub calls : calls_of w ≡ calls_of o ++ calls_of v
  pub sound : IsSound w
