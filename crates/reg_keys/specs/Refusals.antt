-- To be believed: a refusal changes nothing but the history.
use Rattle.std.specs.Prelude.{◌≡◌, ℕ, List, ◌∷◌}
use Rattle.reg_keys.specs.declared.opening.Opening.{Opening}
use Rattle.reg_keys.specs.declared.registration.Dir.{Dir}
use Rattle.reg_keys.specs.declared.entry.OpenOutcome.TheVariants as Opens
use Rattle.reg_keys.specs.declared.entry.ReportOutcome.TheVariants as Reports
use Rattle.reg_keys.specs.declared.entry.RegisterOutcome.TheVariants as Registers
use Rattle.reg_keys.specs.declared.entry.WithdrawOutcome.TheVariants as Withdraws
use Rattle.reg_keys.specs.declared.entry.AskOutcome.TheVariants as Asks
use Rattle.reg_keys.specs.declared.entry.DispatchOutcome.TheVariants as Dispatches
use Rattle.reg_keys.specs.declared.entry.CloseOutcome.TheVariants as Closes
use Rattle.reg_keys.specs.declared.entry.Entry.{Entry}
use Rattle.reg_keys.specs.declared.entry.Entry.TheVariants.{Open, Report, Register, Withdraw, Ask, Dispatch}
use Rattle.reg_keys.specs.declared.entry.Entry.TheVariants.{Close}
use Rattle.reg_keys.specs.Histories.{count_after, owner_of, mark_of, ready_bits, waiting, events_out, unasked}

-- the call was refused, or told nothing yet
abbrev pub IsRefusal : Entry → Type 0
IsRefusal (Open fd (Opens.Opened o)) = ⊥
IsRefusal (Report o ds (Reports.Noted e)) = ⊥
IsRefusal (Register o d m kind (Registers.Waits key e)) = ⊥
IsRefusal (Withdraw key (Withdraws.Back kind)) = ⊥
IsRefusal (Ask key (Asks.Ran d m)) = ⊥
IsRefusal (Ask key Asks.Closed) = ⊥
IsRefusal (Dispatch x (Dispatches.Ran ran e)) = ⊥
IsRefusal (Close o (Closes.Shut xs)) = ⊥
IsRefusal _ = Unit {0}

-- all that was so before the latest entry is so after it
pub record ChangesNothing (s c : ℕ) (past : List Entry) (e : Entry) : Type 0 where
  pub count : count_after c (e ∷ past) ≡ count_after c past
  pub owners : (fd : ℕ) → owner_of (e ∷ past) fd ≡ owner_of past fd
  pub marks : (o : Opening) (d : Dir) → mark_of s c (e ∷ past) o d ≡ mark_of s c past o d
  pub bits : (o : Opening) (d : Dir) → ready_bits s c (e ∷ past) o d ≡ ready_bits s c past o d
  pub waits : waiting (e ∷ past) ≡ waiting past
  pub events : events_out s c (e ∷ past) ≡ events_out s c past
  pub flags : unasked (e ∷ past) ≡ unasked past
