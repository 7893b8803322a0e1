-- To be believed: what is promised of every legal history in sums over its entries, and
-- what a flag's owner is told.
use Rattle.std.specs.Prelude.{◌≡◌, ℕ, ◌+◌, ◌≤◌, ◌==◌, ◌%◌, ◌⊎◌, List, [], ◌∷◌, ◌++◌, false, Option, Some}
use Rattle.std.specs.Prelude.{None}
use Rattle.reg_keys.specs.declared.opening.Opening.{Opening}
use Rattle.reg_keys.specs.declared.event.EventName.{EventName}
use Rattle.reg_keys.specs.declared.registration.Key.{Key}
use Rattle.reg_keys.specs.declared.registration.Dir.{Dir}
use Rattle.reg_keys.specs.declared.registration.Marks.{Marks}
use Rattle.reg_keys.specs.declared.entry.LoadKind.{LoadKind}
use Rattle.reg_keys.specs.declared.entry.FiredKey.{FiredKey}
use Rattle.reg_keys.specs.declared.entry.ShutKey.{ShutKey}
use Rattle.reg_keys.specs.declared.entry.Entry.{Entry}
use Rattle.reg_keys.specs.declared.entry.Entry.TheVariants.{Open, Report, Register, Withdraw, Ask, Dispatch}
use Rattle.reg_keys.specs.declared.entry.Entry.TheVariants.{Close}
use Rattle.reg_keys.specs.declared.entry.WithdrawOutcome.TheVariants as Withdraws
use Rattle.reg_keys.specs.declared.entry.OpenOutcome.TheVariants.{Opened}
use Rattle.reg_keys.specs.declared.entry.ReportOutcome.TheVariants.{Noted}
use Rattle.reg_keys.specs.declared.entry.RegisterOutcome.TheVariants.{Waits}
use Rattle.reg_keys.specs.declared.entry.AskOutcome.TheVariants as Asked
use Rattle.reg_keys.specs.declared.entry.DispatchOutcome.TheVariants.{Ran}
use Rattle.reg_keys.specs.declared.entry.CloseOutcome.TheVariants.{Shut}
use Rattle.reg_keys.specs.Tests.{same, one_if, total, IsIn}
use Rattle.reg_keys.specs.Histories.{next_number, Registered, IsLive, is_live, mark_of, marks_of, waiting}
use Rattle.reg_keys.specs.Promises.{weight, times_run, shuts}

-- ---- numbers

-- an event that is named draws its number
abbrev pub drawn_by_event : ℕ → Option EventName → ℕ
drawn_by_event n None = 0
drawn_by_event n (Some e) = one_if (e.number == n)

-- how often an entry shows that it drew a number, for an opening, a key or an event
abbrev pub draws : ℕ → Entry → ℕ
draws n (Open fd (Opened o)) = one_if (o.number == n)
draws n (Report o ds (Noted e)) = drawn_by_event n e
draws n (Register o d m kind (Waits key e)) = one_if (key.number == n) + drawn_by_event n e
draws n (Dispatch x (Ran ran e)) = drawn_by_event n e
draws n _ = 0

-- the entry made this opening
abbrev pub opens : Opening → Entry → ℕ
opens o (Open fd (Opened p)) = one_if (same p o)
opens o _ = 0

-- nothing of a stripe's has the number of another, so an opening is made once
pub record DrawsEachOnce (past : List Entry) : Type 0 where
  pub numbers : (n : ℕ) → weight (draws n) past ≤ 1
  pub openings : (o : Opening) → weight (opens o) past ≤ 1
  pub runs : (k : Key) → weight (times_run k) past ≤ 1

-- Each number is drawn in its own stripe, and so is the number of each key that ran. Numbers of different
-- stripes are therefore different.
pub record DrawsInItsStripe (s : ℕ) (past : List Entry) : Type 0 where
  pub numbers : (n : ℕ) → 1 ≤ weight (draws n) past → n % 32 ≡ s
  pub openings : (o : Opening) → 1 ≤ weight (opens o) past → o.number % 32 ≡ s
  pub runs : (k : Key) → 1 ≤ weight (times_run k) past → k.number % 32 ≡ s

-- How often the number was drawn for a report that was accepted. It was the next one after the entries
-- before, and no entry shows it.
abbrev pub times_reported : ℕ → ℕ → ℕ → List Entry → ℕ
times_reported s c n [] = 0
times_reported s c n (Report o ds (Noted e) ∷ past) =
    one_if (next_number s c past == n) + times_reported s c n past
times_reported s c n (_ ∷ past) = times_reported s c n past

-- A report has a number of its own: no other report has it, and no opening, key or event. It is of the
-- stripe, and what a direction's mark shows is the number of a report or of the opening.
pub record NumbersReportsAlone (s c : ℕ) (past : List Entry) : Type 0 where
  pub once : (n : ℕ) → times_reported s c n past + weight (draws n) past ≤ 1
  pub stripe : (n : ℕ) → 1 ≤ times_reported s c n past → n % 32 ≡ s
  pub marks : (o : Opening) (d : Dir)
      → (mark_of s c past o d ≡ o.number) ⊎ (1 ≤ times_reported s c (mark_of s c past o d) past)

-- ---- openings

-- the entry closed this opening
abbrev pub closes : Opening → Entry → ℕ
closes o e = one_if (shuts o e)

-- each opening that was made is live, or was closed, once
abbrev pub ClosesWhatItOpened : List Entry → Type 0
ClosesWhatItOpened past =
    (o : Opening) → weight (closes o) past + one_if (is_live past o) ≡ weight (opens o) past

-- what was closed, or was made and isn't live, is never live again, whatever comes later
pub record ClosesForGood (later past : List Entry) : Type 0 where
  pub closed : (o : Opening) → 1 ≤ weight (closes o) past → is_live (later ++ past) o ≡ false
  pub gone : (o : Opening) → 1 ≤ weight (opens o) past → is_live past o ≡ false
      → is_live (later ++ past) o ≡ false

-- ---- what ran

-- a registration that an event ran, as the Ran list shows it
abbrev pub run_of : EventName → FiredKey → Registered
run_of x r = record { key = r.key; opening = x.opening; dir = r.dir; kind = r.kind }

-- what the registrations weigh that an entry ran
abbrev pub weight_run : (Registered → ℕ) → Entry → ℕ
weight_run f (Dispatch x (Ran ran e)) = total (λ (r : FiredKey). f (run_of x r)) ran
weight_run f _ = 0

-- what the registration weighs that an entry accepted
abbrev pub weight_registered : (Registered → ℕ) → Entry → ℕ
weight_registered f (Register o d m kind (Waits key e)) =
    f (record { key = key; opening = o; dir = d; kind = kind })
weight_registered f _ = 0

-- however registrations are weighed, those that ran weigh no more than those that were accepted: what ran
-- shows the key, opening, direction and tag of its own registration
abbrev pub RunsWhatWasRegistered : List Entry → Type 0
RunsWhatWasRegistered past =
    (f : Registered → ℕ) → weight (weight_run f) past ≤ weight (weight_registered f) past

-- ---- what ended

-- what the registrations weigh that an entry ran or shut, by key, opening and load
abbrev pub weight_ended : (Key → Opening → LoadKind → ℕ) → Entry → ℕ
weight_ended f (Dispatch x (Ran ran e)) = total (λ (r : FiredKey). f r.key x.opening r.kind) ran
weight_ended f (Close o (Shut xs)) = total (λ (x : ShutKey). f x.key o x.kind) xs
weight_ended f _ = 0

-- what the registration weighs that an entry accepted, by key, opening and load
abbrev pub weight_accepted : (Key → Opening → LoadKind → ℕ) → Entry → ℕ
weight_accepted f (Register o d m kind (Waits key e)) = f key o kind
weight_accepted f _ = 0

-- However registrations are weighed, those that ran and those that were shut together weigh no more
-- than those that were accepted: each that ended shows the key, opening and tag of its own
-- registration, and none ended twice.
abbrev pub EndsWhatWasRegistered : List Entry → Type 0
EndsWhatWasRegistered past =
    (f : Key → Opening → LoadKind → ℕ) → weight (weight_ended f) past ≤ weight (weight_accepted f) past

-- the entry gave a registration back
abbrev pub withdraws : Entry → ℕ
withdraws (Withdraw key (Withdraws.Back kind)) = 1
withdraws _ = 0

-- Where nothing was withdrawn, each registration that was accepted ended or waits still,
-- however registrations are weighed
abbrev pub EndedOrWaits : List Entry → Type 0
EndedOrWaits past =
    weight withdraws past ≡ 0 → (f : Key → Opening → LoadKind → ℕ)
    → weight (weight_ended f) past + total (λ (w : Registered). f w.key w.opening w.kind) (waiting past)
    ≡ weight (weight_accepted f) past

-- a dispatch that ran something was of an opening that was live, and each Ran key shows its marks
abbrev pub RunsUnderItsMarks : ℕ → ℕ → List Entry → Type 0
RunsUnderItsMarks s c past =
    (later : List Entry) (x : EventName) (ran : List FiredKey) (e : Option EventName) (earlier : List Entry)
    → past ≡ later ++ Dispatch x (Ran ran e) ∷ earlier
    → IsLive earlier x.opening × ((r : FiredKey) → IsIn r ran → r.marks ≡ marks_of s c earlier x.opening)

-- ---- what a flag's owner is told

-- a Ran list holds the key with this direction and these marks
abbrev pub ShowsRun : Key → Dir → Marks → List Entry → Type 0
ShowsRun k d m past =
    (x : EventName) × (ran : List FiredKey) × (e : Option EventName) × (r : FiredKey)
    × IsIn (Dispatch x (Ran ran e)) past × IsIn r ran × (r.key ≡ k) × (r.dir ≡ d) × (r.marks ≡ m)

-- a Shut list holds the key
abbrev pub ShowsShut : Key → List Entry → Type 0
ShowsShut k past =
    (o : Opening) × (xs : List ShutKey) × (x : ShutKey) × IsIn (Close o (Shut xs)) past
    × IsIn x xs × (x.key ≡ k)

-- an answer that a flag ran or was closed shows a list with its key
pub record TellsOfFlags (past : List Entry) : Type 0 where
  pub ran : (k : Key) (d : Dir) (m : Marks) → IsIn (Ask k (Asked.Ran d m)) past → ShowsRun k d m past
  pub closed : (k : Key) → IsIn (Ask k Asked.Closed) past → ShowsShut k past
