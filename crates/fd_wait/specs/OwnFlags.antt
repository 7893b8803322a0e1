-- To be believed: what becomes of a flag of one's own, in the past of its stripe, whose
-- latest entry comes first.
use Rattle.std.specs.Prelude.{◌≡◌, ℕ, List, ◌∷◌, ◌++◌, Option}
use Rattle.reg_keys.specs.declared.opening.Opening.{Opening}
use Rattle.reg_keys.specs.declared.event.EventName.{EventName}
use Rattle.reg_keys.specs.declared.registration.Key.{Key}
use Rattle.reg_keys.specs.declared.registration.Dir.{Dir}
use Rattle.reg_keys.specs.declared.registration.Marks.{Marks}
use Rattle.reg_keys.specs.declared.entry.LoadKind.TheVariants.{Flag}
use Rattle.reg_keys.specs.declared.entry.FiredKey.{FiredKey}
use Rattle.reg_keys.specs.declared.entry.ShutKey.{ShutKey}
use Rattle.reg_keys.specs.declared.entry.RegisterOutcome.TheVariants.{Waits}
use Rattle.reg_keys.specs.declared.entry.DispatchOutcome.TheVariants.{Ran}
use Rattle.reg_keys.specs.declared.entry.CloseOutcome.TheVariants.{Shut}
use Rattle.reg_keys.specs.declared.entry.Entry.{Entry}
use Rattle.reg_keys.specs.declared.entry.Entry.TheVariants.{Register, Dispatch, Close}
use Rattle.reg_keys.specs.Tests.{IsIn}

-- a flag as it was registered, with the key that it got and the event that was named, if any
pub record OwnFlag : Type 0 where
  pub opening : Opening
  pub dir : Dir
  pub mark : Option ℕ
  pub key : Key
  pub named : Option EventName

-- the entry of its registration
abbrev pub registers : OwnFlag → Entry
registers f = Register f.opening f.dir f.mark Flag (Waits f.key f.named)

-- after it was registered, a dispatch of an event of its own opening ran it, with these marks
pub record FlagRan (f : OwnFlag) (marks : Marks) (past : List Entry) : Type 0 where
  pub event : EventName
  pub ran : List FiredKey
  pub next : Option EventName
  pub later : List Entry
  pub earlier : List Entry
  pub place : past ≡ later ++ Dispatch event (Ran ran next) ∷ earlier
  pub registered : IsIn (registers f) earlier
  pub of_opening : event.opening ≡ f.opening
  pub listed : IsIn (record { key = f.key; dir = f.dir; marks = marks; kind = Flag }) ran

-- after it was registered, its own opening was closed while it waited
pub record WasShut (f : OwnFlag) (past : List Entry) : Type 0 where
  pub shut : List ShutKey
  pub shown : ShutKey
  pub later : List Entry
  pub earlier : List Entry
  pub place : past ≡ later ++ Close f.opening (Shut shut) ∷ earlier
  pub registered : IsIn (registers f) earlier
  pub listed : IsIn shown shut
  pub of_key : shown.key ≡ f.key
