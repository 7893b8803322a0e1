-- To be believed: what is promised of every history of watches, and of what a full table shows.
use Rattle.std.specs.Prelude.{◌≡◌, ℕ, ◌≤◌, List, [], ◌∷◌, ◌++◌, Bool, true, false, Option, Some, None, All}
use Rattle.reg_keys.specs.declared.Opening.{Opening}
use Rattle.reg_keys.specs.Tests.{one_if, total}
use Rattle.timeout_mgr.specs.declared.view.WatchEntry.{WatchEntry}
use Rattle.timeout_mgr.specs.declared.view.WatchEntry.TheVariants.{Added, Tickled, Cancelled, Swept}
use Rattle.timeout_mgr.specs.declared.view.Shown.{Shown}
use Rattle.timeout_mgr.specs.Watches.{WatchLog, is_of, watch_entries, Ended, status}
use Rattle.timeout_mgr.specs.Calls.{IsTakenAt}

-- one where the entry adds the watch, and else none
abbrev pub adds : ℕ → ℕ → WatchEntry → ℕ
adds slot number (Added x o) = one_if (is_of slot number x)
adds slot number (Tickled x alive) = 0
adds slot number (Cancelled x alive) = 0
adds slot number (Swept x given) = 0

-- one where the entry is the cancel that ends the watch or the sweep that gives it, and else none
abbrev pub ends : ℕ → ℕ → WatchEntry → ℕ
ends slot number (Added x o) = 0
ends slot number (Tickled x alive) = 0
ends slot number (Cancelled x false) = 0
ends slot number (Cancelled x true) = one_if (is_of slot number x)
ends slot number (Swept x None) = 0
ends slot number (Swept x (Some o)) = one_if (is_of slot number x)

-- each watch is added at most once, and ends at most once, by a cancel or by a sweep that gives
-- it: so no watch is given twice
pub record EndsOnce (log : WatchLog) : Type 0 where
  pub added : (slot number : ℕ) → total (adds slot number) log ≤ 1
  pub ended : (slot number : ℕ) → total (ends slot number) log ≤ total (adds slot number) log

-- what an entry weighs by the opening that it gave, if any
abbrev pub gives : (Opening → ℕ) → WatchEntry → ℕ
gives f (Added x o) = 0
gives f (Tickled x alive) = 0
gives f (Cancelled x alive) = 0
gives f (Swept x None) = 0
gives f (Swept x (Some o)) = f o

-- the entry shows that its watch doesn't live
abbrev pub IsGone : WatchEntry → Type 0
IsGone (Added x o) = ⊥
IsGone (Tickled x alive) = alive ≡ false
IsGone (Cancelled x alive) = alive ≡ false
IsGone (Swept x given) = ⊥

-- no earlier add gave the watch, and whatever was asked of it before was answered that it doesn't live
pub record WasUnborn (slot number : ℕ) (past : WatchLog) : Type 0 where
  pub none : total (adds slot number) past ≡ 0
  pub gone : All IsGone (watch_entries slot number past)

-- after the end of a watch it has ended for good, and every tickle and cancel is
-- answered that it doesn't live
pub record StaysEnded (slot number : ℕ) (later past : WatchLog) : Type 0 where
  pub ended : status slot number (later ++ past) ≡ Ended
  pub gone : All IsGone (watch_entries slot number later)

-- the latest of a watch's entries is a sweep
abbrev pub last_is_sweep : List WatchEntry → Bool
last_is_sweep [] = false
last_is_sweep (Added x o ∷ older) = false
last_is_sweep (Tickled x alive ∷ older) = false
last_is_sweep (Cancelled x alive ∷ older) = false
last_is_sweep (Swept x given ∷ older) = true

-- an opening was given
abbrev pub is_given : Option Opening → Bool
is_given None = false
is_given (Some o) = true

-- among these items are such as show this slot taken
abbrev pub ShowsTaken : ℕ → List Shown → Type 0
ShowsTaken k items = (newer : List Shown) × (part : List Shown) × (older : List Shown)
    × (items ≡ newer ++ (part ++ older)) × IsTakenAt k part
