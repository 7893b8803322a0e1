-- To be believed: the history of all watches, what it says of each, and the one answer that each entry of it
-- must have. It knows no word of a table.
use Rattle.std.specs.Prelude.{◌≡◌, ℕ, ◌&&◌, ◌==◌, List, [], ◌∷◌, Bool, true, false, if◌then◌else◌, Some, None}
use Rattle.reg_keys.specs.declared.Opening.{Opening}
use Rattle.timeout_mgr.specs.declared.view.WatchName.{WatchName}
use Rattle.timeout_mgr.specs.declared.view.WatchEntry.{WatchEntry}
use Rattle.timeout_mgr.specs.declared.view.WatchEntry.TheVariants.{Added, Tickled, Cancelled, Swept}

-- what was decided of which watch, in the order of the deciding steps, the newest first
abbrev pub WatchLog : Type 0
WatchLog = List WatchEntry

-- the watch that something was decided of
abbrev pub name_of : WatchEntry → WatchName
name_of (Added x o) = x
name_of (Tickled x alive) = x
name_of (Cancelled x alive) = x
name_of (Swept x given) = x

-- the watch has this slot and this number
abbrev pub is_of : ℕ → ℕ → WatchName → Bool
is_of slot number x = (x.slot == slot) && (x.number == number)

-- the entries of the watch with this slot and this number, the newest first
abbrev pub watch_entries : ℕ → ℕ → WatchLog → List WatchEntry
watch_entries slot number [] = []
watch_entries slot number (d ∷ past) =
    (if is_of slot number (name_of d) then d ∷ watch_entries slot number past
    else watch_entries slot number past)

-- how it stands with a watch: it is no one's yet, or it lives, for an opening, and its last entry is a
-- sweep or isn't, or it has ended
pub data Status : Type 0 where
  Unborn : Status
  Lives : Opening → Bool → Status
  Ended : Status

-- the watch lives
abbrev pub is_alive : Status → Bool
is_alive Unborn = false
is_alive (Lives o swept_last) = true
is_alive Ended = false

-- how it stands with a watch after an entry of it: it lives from its add to its cancel or to the sweep that
-- gives it, which is the one that finds a sweep as the last entry
abbrev pub after : WatchEntry → Status → Status
after (Added x o) s = Lives o false
after (Tickled x alive) (Lives o swept_last) = Lives o false
after (Tickled x alive) s = s
after (Cancelled x alive) (Lives o swept_last) = Ended
after (Cancelled x alive) s = s
after (Swept x given) (Lives o true) = Ended
after (Swept x given) (Lives o false) = Lives o true
after (Swept x given) s = s

-- how it stands with a watch that has these entries, the newest first
abbrev pub status_after : List WatchEntry → Status
status_after [] = Unborn
status_after (d ∷ past) = after d (status_after past)

-- how it stands with the watch of this slot and this number after a history
abbrev pub status : ℕ → ℕ → WatchLog → Status
status slot number log = status_after (watch_entries slot number log)

-- how it stands, after a history, with the watch that an entry is of
abbrev pub before : WatchEntry → WatchLog → Status
before d past = status (name_of d).slot (name_of d).number past

-- The answer of an entry is the one that its watch calls for, as it stands with it before: only a watch that
-- is no one's is added, a tickle and a cancel answer whether it lives, and a sweep gives its opening exactly
-- where its last entry is a sweep
abbrev pub IsWatchAnswer : WatchEntry → Status → Type 0
IsWatchAnswer (Added x o) s = s ≡ Unborn
IsWatchAnswer (Tickled x alive) s = alive ≡ is_alive s
IsWatchAnswer (Cancelled x alive) s = alive ≡ is_alive s
IsWatchAnswer (Swept x None) s = (o : Opening) × (s ≡ Lives o false)
IsWatchAnswer (Swept x (Some o)) s = s ≡ Lives o true

-- every entry has its answer
abbrev pub IsWatchHistory : WatchLog → Type 0
IsWatchHistory [] = Unit {0}
IsWatchHistory (d ∷ past) = IsWatchAnswer d (before d past) × IsWatchHistory past
