-- To be believed: what each reply of a legal history says of the openings, keys and events that it names.
use Rattle.std.specs.Prelude.{◌≡◌, ℕ, ◌%◌, ◌^◌, ◌<◌, List, Option, Some, None}
use Rattle.reg_keys.specs.declared.opening.Opening.{Opening}
use Rattle.reg_keys.specs.declared.event.EventName.{EventName}
use Rattle.reg_keys.specs.declared.entry.OpenOutcome.TheVariants.{Taken, Opened}
use Rattle.reg_keys.specs.declared.entry.ReportOutcome.TheVariants.{Noted}
use Rattle.reg_keys.specs.declared.entry.RegisterOutcome.TheVariants.{Waits}
use Rattle.reg_keys.specs.declared.entry.DispatchOutcome.TheVariants.{Ran}
use Rattle.reg_keys.specs.declared.entry.Entry.{Entry}
use Rattle.reg_keys.specs.declared.entry.Entry.TheVariants.{Open, Report, Register, Dispatch}
use Rattle.reg_keys.specs.Tests.{IsIn}
use Rattle.reg_keys.specs.Histories.{owner_of}

-- the opening is of this descriptor, its number is of the stripe, and small enough that it has a token
pub record IsOpeningOf (s fd : ℕ) (o : Opening) : Type 0 where
  pub descriptor : o.fd ≡ fd
  pub stripe : o.number % 32 ≡ s
  pub small : o.number < 2 ^ 57

-- the event, where one was named, is of this opening
abbrev pub IsNamedFor : Opening → Option EventName → Type 0
IsNamedFor o None = Unit {0}
IsNamedFor o (Some e) = e.opening ≡ o

-- what a reply says of what it names: an opening that was made or found is of the descriptor that was asked
-- for, an event is of the opening that the call is about, and a key is of the stripe
abbrev pub NamesItsOwn : ℕ → Entry → Type 0
NamesItsOwn s (Open fd (Taken o)) = IsOpeningOf s fd o
NamesItsOwn s (Open fd (Opened o)) = IsOpeningOf s fd o
NamesItsOwn s (Report o ds (Noted e)) = IsNamedFor o e
NamesItsOwn s (Register o d m kind (Waits key e)) = (key.number % 32 ≡ s) × IsNamedFor o e
NamesItsOwn s (Dispatch x (Ran ran e)) = IsNamedFor x.opening e
NamesItsOwn s _ = Unit {0}

-- each reply of the history names its own, and a descriptor's opening is one of that descriptor
pub record NamesOwnOpenings (s : ℕ) (past : List Entry) : Type 0 where
  pub replies : (e : Entry) → IsIn e past → NamesItsOwn s e
  pub owners : (fd : ℕ) (o : Opening) → owner_of past fd ≡ Some o → IsOpeningOf s fd o
