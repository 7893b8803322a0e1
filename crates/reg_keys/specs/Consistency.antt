-- To be believed: how the definitions fit together in every legal history.
use Rattle.std.specs.Prelude.{◌≡◌, ◌<◌, ◌&&◌, List, [], ◌∷◌, true, false, Bool}
use Rattle.std.specs.List.{list_any}
use Rattle.reg_keys.specs.declared.registration.Key.{Key}
use Rattle.reg_keys.specs.declared.entry.DispatchOutcome.TheVariants.{Ran}
use Rattle.reg_keys.specs.declared.entry.CloseOutcome.TheVariants.{Shut}
use Rattle.reg_keys.specs.declared.entry.Entry.{Entry}
use Rattle.reg_keys.specs.declared.entry.Entry.TheVariants.{Dispatch, Close}
use Rattle.reg_keys.specs.Tests.{same_key, IsIn}
use Rattle.reg_keys.specs.Histories.{keys_run, keys_shut, Registered, waiting, Standing, StillWaits, Unasked}
use Rattle.reg_keys.specs.Histories.{unasked}
use Rattle.reg_keys.specs.Replies.{is_flag}

-- each key is greater than those before it
abbrev pub IsAscending : List Registered → Type 0
IsAscending [] = Unit {0}
IsAscending (w ∷ ws) = ((v : Registered) → IsIn v ws → w.key.number < v.key.number) × IsAscending ws

-- the same of keys by themselves
abbrev pub AreAscending : List Key → Type 0
AreAscending [] = Unit {0}
AreAscending (k ∷ ks) = ((l : Key) → IsIn l ks → k.number < l.number) × AreAscending ks

-- the keys that the Ran list or the Shut list of an entry shows
abbrev pub keys_shown : Entry → List Key
keys_shown (Dispatch x (Ran ran e)) = keys_run ran
keys_shown (Close o (Shut xs)) = keys_shut xs
keys_shown _ = []

-- the key waits, and is that of a flag
abbrev pub waits_as_flag : List Entry → Key → Bool
waits_as_flag past k = list_any (λ (w : Registered). same_key w.key k && is_flag w.kind) (waiting past)

-- the flag's owner is told that it waits
abbrev pub still_waits : Standing → Bool
still_waits StillWaits = true
still_waits _ = false

-- the key is that of a flag whose owner is told that it waits
abbrev pub told_to_wait : List Entry → Key → Bool
told_to_wait past k = list_any (λ (f : Unasked). same_key f.key k && still_waits f.standing) (unasked past)

-- the definitions agree with one another
pub record IsConsistent (past : List Entry) : Type 0 where
  -- registrations wait in the order of their keys
  pub in_order : IsAscending (waiting past)
  -- Ran lists and Shut lists are in that order too
  pub lists : (e : Entry) → IsIn e past → AreAscending (keys_shown e)
  -- the flags that wait are those whose owners are told so
  pub flags : (k : Key) → waits_as_flag past k ≡ told_to_wait past k
