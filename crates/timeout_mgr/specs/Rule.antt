-- Inner: the rule of the table, which holds between any two steps of any threads, and
-- what a step tells its pass.
use Rattle.std.specs.Prelude.{◌≡◌, ◌≢◌, ℕ, ◌+◌, ◌*◌, ◌^◌, ◌<◌, ◌≤◌, ◌⊎◌, List, [], ◌++◌, length, true, false}
use Rattle.std.specs.Prelude.{Option, Some, None}
use mathlib.Core.Option as maths
use lib.ListN.{get_elem?}
use Rattle.atomic_table.specs.Table.{State, Me}
use Rattle.reg_keys.specs.declared.Opening.{Opening}
use Rattle.timeout_mgr.specs.declared.view.WatchEntry.{WatchEntry}
use Rattle.timeout_mgr.specs.declared.view.Shown.{Shown}
use Rattle.timeout_mgr.specs.declared.view.Holding.{Holding}
use Rattle.timeout_mgr.specs.declared.view.Holding.TheVariants.{Idle, Holds}
use Rattle.timeout_mgr.specs.declared.view.TimeView.{TimeView}
use Rattle.timeout_mgr.specs.declared.word.SlotState.{SlotState}
use Rattle.timeout_mgr.specs.declared.word.SlotState.TheVariants.{Free, Making, Active, Inactive, Leaving}
use Rattle.timeout_mgr.specs.Watches.{WatchLog, Status, Unborn, Lives, Ended, status, IsWatchHistory}
use Rattle.timeout_mgr.specs.Word.{code_of}
use Rattle.timeout_mgr.specs.Passes.{entries_in, own_entries, IsPastOf}
use Rattle.reg_keys.specs.Tests.{total}

-- how many uses are spent by it
abbrev pub used : SlotState → ℕ
used Free = 0
used Making = 1
used Active = 1
used Inactive = 1
used Leaving = 1

-- how it stands with the watch of the slot's current use
abbrev pub status_at : SlotState → Opening → Status
status_at Free o = Unborn
status_at Making o = Unborn
status_at Active o = Lives o false
status_at Inactive o = Lives o true
status_at Leaving o = Ended

-- what is in the slot
abbrev pub Home : SlotState → Opening → maths.Option (Option Opening) → Type 0
Home Free o h = h ≡ maths.some None
Home Making o h = Unit {0}
Home Active o h = h ≡ maths.some (Some o)
Home Inactive o h = h ≡ maths.some (Some o)
Home Leaving o h = Unit {0}

-- The slot k, whose word is n, is at its use u, in the state c, for the opening o: the watches of earlier
-- uses have ended, those of later ones are no one's yet, and the slot holds what its state calls for
pub record At (log : WatchLog) (k n : ℕ) (h : maths.Option (Option Opening)) (u : ℕ) (c : SlotState)
    (o : Opening) : Type 0 where
  pub word : n ≡ 8 * u + code_of c
  pub small : u + used c ≤ 2 ^ 40
  pub past : (m : ℕ) → m < u → status k m log ≡ Ended
  pub now : status k u log ≡ status_at c o
  pub future : (m : ℕ) → u < m → status k m log ≡ Unborn
  pub home : Home c o h

-- the slot k, whose word is n, is at some use, in some state
abbrev pub IsPlace : WatchLog → ℕ → ℕ → maths.Option (Option Opening) → Type 0
IsPlace log k n h = (u : ℕ) × (c : SlotState) × (o : Opening) × At log k n h u c o

-- the word is where the pass left it that has the slot in its hand
abbrev pub HasLeft : List ℕ → Holding → Type 0
HasLeft ws Idle = Unit {0}
HasLeft ws (Holds k n) = (get_elem? ws k ≡ maths.some n) × ((u : ℕ) × ((n ≡ 8 * u + 1) ⊎ (n ≡ 8 * u + 4)))

-- two passes don't hold one slot
abbrev pub Apart : Holding → Holding → Type 0
Apart (Holds k n) (Holds j m) = k ≢ j
Apart a b = Unit {0}

-- The rule: there is one history, in which every entry has its answer. Each slot is at a use of its own by
-- it, and each pass has seen a past of it. A slot in a pass's hand has the word that the pass left there.
-- Whatever the entries weigh, those that the passes made weigh as much together as the history
pub record IsKept (s : State (Option Opening) TimeView) : Type 0 where
  pub log : WatchLog
  pub legal : IsWatchHistory log
  pub long : length s.words ≡ length s.homes
  pub places : (k n : ℕ) (h : maths.Option (Option Opening)) → get_elem? s.words k ≡ maths.some n
      → get_elem? s.homes k ≡ maths.some h → IsPlace log k n h
  pub seen : (j : ℕ) (v : TimeView) → get_elem? s.views j ≡ maths.some v
      → IsPastOf v.seen log × IsPastOf v.told log
  pub hands : (j : ℕ) (v : TimeView) → get_elem? s.views j ≡ maths.some v → HasLeft s.words v.hand
  pub apart : (i j : ℕ) (v w : TimeView) → i ≢ j → get_elem? s.views i ≡ maths.some v
      → get_elem? s.views j ≡ maths.some w → Apart v.hand w.hand
  pub sums : (f : WatchEntry → ℕ) → total (λ v. total f (own_entries v)) s.views ≡ total f log

-- what a pass knows that took in another one
abbrev pub both_of : TimeView → TimeView → TimeView
both_of v w = record { seen = v.seen; told = w.seen; kept = v.kept ++ w.kept; hand = v.hand }

-- What a step tells that showed these items: the history as it then is, what it goes on from, and that
-- the pass's own entries are in it
pub record Tells (items : List Shown) (hand : Holding) (v w : TimeView) : Type 0 where
  pub later : WatchLog
  pub seen : w.seen ≡ entries_in items ++ (later ++ v.seen)
  pub kept : w.kept ≡ items ++ v.kept
  pub holds : w.hand ≡ hand
  pub told : w.told ≡ []
  pub told_too : IsPastOf v.told w.seen
  pub legal : IsWatchHistory w.seen
  pub own : (f : WatchEntry → ℕ) → total f (own_entries w) ≤ total f w.seen

-- no call is being made with the pass
abbrev pub IsAtRest : Me (Option Opening) TimeView → Type 0
IsAtRest m = (m.0.hand ≡ Idle) × (m.1 ≡ []) × (m.0.told ≡ [])
