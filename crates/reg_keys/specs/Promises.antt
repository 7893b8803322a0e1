-- To be believed: that in every legal history a registration runs at most once, and has
-- one event out while it is due.
use Rattle.std.specs.Prelude.{◌≡◌, ℕ, ◌≤◌, List, [], ◌∷◌, ◌++◌, true, false, Bool, Option}
use Rattle.std.specs.List.{list_any}
use Rattle.reg_keys.specs.declared.opening.Opening.{Opening}
use Rattle.reg_keys.specs.declared.event.EventName.{EventName}
use Rattle.reg_keys.specs.declared.registration.Key.{Key}
use Rattle.reg_keys.specs.declared.entry.Entry.{Entry}
use Rattle.reg_keys.specs.declared.entry.Entry.TheVariants.{Register, Withdraw, Dispatch, Close}
use Rattle.reg_keys.specs.declared.entry.RegisterOutcome.TheVariants.{Waits}
use Rattle.reg_keys.specs.declared.entry.WithdrawOutcome.TheVariants.{Back}
use Rattle.reg_keys.specs.declared.entry.DispatchOutcome.TheVariants.{Ran}
use Rattle.reg_keys.specs.declared.entry.CloseOutcome.TheVariants.{Shut}
use Rattle.reg_keys.specs.Tests.{same, same_key, how_many, total, IsIn}
use Rattle.reg_keys.specs.Histories.{keys_run, keys_shut, Registered, waiting, ready_bits, IsDue, is_of}
use Rattle.reg_keys.specs.Histories.{events_out}

-- the sum of a weight over a history
abbrev pub weight : (Entry → ℕ) → List Entry → ℕ
weight f past = total f past

-- how often a key stands in a list of keys
abbrev pub times : Key → List Key → ℕ
times k keys = how_many (λ l. same_key l k) keys

-- how often a key stands in an entry's Ran list
abbrev pub times_run : Key → Entry → ℕ
times_run k (Dispatch x (Ran ran e)) = times k (keys_run ran)
times_run k _ = 0

-- how often a key stands in an entry's Ran list, Back reply or Shut list
abbrev pub times_ended : Key → Entry → ℕ
times_ended k (Withdraw key (Back kind)) = times k (key ∷ [])
times_ended k (Dispatch x (Ran ran e)) = times k (keys_run ran)
times_ended k (Close o (Shut xs)) = times k (keys_shut xs)
times_ended k _ = 0

-- the entry closed this opening
abbrev pub shuts : Opening → Entry → Bool
shuts o (Close p (Shut xs)) = same p o
shuts o _ = false

-- the history accepted this registration
abbrev pub WasRegistered : Registered → List Entry → Type 0
WasRegistered w past =
    (m : Option ℕ) × (e : Option EventName) × IsIn (Register w.opening w.dir m w.kind (Waits w.key e)) past

-- the key was due after the history or after one that it goes on from
abbrev pub WasDue : ℕ → ℕ → Key → List Entry → Type 0
WasDue s c k past =
    (later : List Entry) × (earlier : List Entry) × (past ≡ later ++ earlier) × IsDue s c earlier k

-- a dispatch and a close are of the one opening that they name
abbrev pub IsOfOpening : Opening → Entry → Type 0
IsOfOpening o (Dispatch x r) = same x.opening o ≡ true
IsOfOpening o (Close p r) = same p o ≡ true
IsOfOpening o _ = Unit {0}

-- the place of a key in the Ran list, Back reply or Shut list of an entry, after this past
pub record IsOwnPlace (s c : ℕ) (k : Key) (e : Entry) (past : List Entry) : Type 0 where
  pub registration : Registered
  pub of_key : registration.key ≡ k
  -- it comes after the key's registration
  pub registered : WasRegistered registration past
  -- it belongs to the key's own opening
  pub own : IsOfOpening registration.opening e
  -- it isn't after that opening's close
  pub not_shut : list_any (shuts registration.opening) past ≡ false
  -- a key that ran was due before, and so at or after its registration
  pub was_due : 1 ≤ times_run k e → WasDue s c k past

-- a registration runs, is given back or is shut at most once, and only under its own opening
pub record RunsOnce (s c : ℕ) (past : List Entry) : Type 0 where
  pub once : (k : Key) → weight (times_ended k) past ≤ 1
  pub own : (k : Key) (later : List Entry) (e : Entry) (earlier : List Entry) → past ≡ later ++ e ∷ earlier
      → 1 ≤ times_ended k e → IsOwnPlace s c k e earlier

-- each opening has at most one event out, and exactly one where a registration of it is due
pub record HasOneEventEach (s c : ℕ) (past : List Entry) : Type 0 where
  pub most : (o : Opening) → how_many (is_of o) (events_out s c past) ≤ 1
  pub one : (w : Registered) → IsIn w (waiting past) → ready_bits s c past w.opening w.dir ≡ true
      → how_many (is_of w.opening) (events_out s c past) ≡ 1
