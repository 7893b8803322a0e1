-- A refusal changes nothing but the history.
use Rattle.std.proofs.Common.{ℕ, List, refl}
use Rattle.reg_keys.specs.declared.entry.OpenOutcome.TheVariants as Opens
use Rattle.reg_keys.specs.declared.entry.ReportOutcome.TheVariants as Reports
use Rattle.reg_keys.specs.declared.entry.RegisterOutcome.TheVariants as Registers
use Rattle.reg_keys.specs.declared.entry.WithdrawOutcome.TheVariants as Withdraws
use Rattle.reg_keys.specs.declared.entry.AskOutcome.TheVariants as Asks
use Rattle.reg_keys.specs.declared.entry.DispatchOutcome.TheVariants as Dispatches
use Rattle.reg_keys.specs.declared.entry.CloseOutcome.TheVariants as Closes
use Rattle.reg_keys.specs.declared.entry.Entry.{Entry}
use Rattle.reg_keys.specs.declared.entry.Entry.TheVariants.{Open, Report, Register, Withdraw, Ask, Dispatch}
use Rattle.reg_keys.specs.declared.entry.Entry.TheVariants.{Close}
use Rattle.reg_keys.specs.Refusals.{IsRefusal, ChangesNothing}

pub changes_nothing : (s c : ℕ) (past : List Entry) (e : Entry) → IsRefusal e → ChangesNothing s c past e
changes_nothing s c past (Open fd (Opens.Taken o)) h = record {
  count = refl;
  owners = λ _. refl;
  marks = λ _ _. refl;
  bits = λ _ _. refl;
  waits = refl;
  events = refl;
  flags = refl;
}
changes_nothing s c past (Open fd Opens.Spent) h = record {
  count = refl;
  owners = λ _. refl;
  marks = λ _ _. refl;
  bits = λ _ _. refl;
  waits = refl;
  events = refl;
  flags = refl;
}
changes_nothing s c past (Report o ds Reports.Stale) h = record {
  count = refl;
  owners = λ _. refl;
  marks = λ _ _. refl;
  bits = λ _ _. refl;
  waits = refl;
  events = refl;
  flags = refl;
}
changes_nothing s c past (Report o ds Reports.Spent) h = record {
  count = refl;
  owners = λ _. refl;
  marks = λ _ _. refl;
  bits = λ _ _. refl;
  waits = refl;
  events = refl;
  flags = refl;
}
changes_nothing s c past (Register o d m kind Registers.Shut) h = record {
  count = refl;
  owners = λ _. refl;
  marks = λ _ _. refl;
  bits = λ _ _. refl;
  waits = refl;
  events = refl;
  flags = refl;
}
changes_nothing s c past (Register o d m kind Registers.Crowded) h = record {
  count = refl;
  owners = λ _. refl;
  marks = λ _ _. refl;
  bits = λ _ _. refl;
  waits = refl;
  events = refl;
  flags = refl;
}
changes_nothing s c past (Register o d m kind Registers.Spent) h = record {
  count = refl;
  owners = λ _. refl;
  marks = λ _ _. refl;
  bits = λ _ _. refl;
  waits = refl;
  events = refl;
  flags = refl;
}
changes_nothing s c past (Withdraw k Withdraws.Gone) h = record {
  count = refl;
  owners = λ _. refl;
  marks = λ _ _. refl;
  bits = λ _ _. refl;
  waits = refl;
  events = refl;
  flags = refl;
}
changes_nothing s c past (Ask k Asks.Unknown) h = record {
  count = refl;
  owners = λ _. refl;
  marks = λ _ _. refl;
  bits = λ _ _. refl;
  waits = refl;
  events = refl;
  flags = refl;
}
changes_nothing s c past (Ask k Asks.Waiting) h = record {
  count = refl;
  owners = λ _. refl;
  marks = λ _ _. refl;
  bits = λ _ _. refl;
  waits = refl;
  events = refl;
  flags = refl;
}
changes_nothing s c past (Dispatch x Dispatches.Stale) h = record {
  count = refl;
  owners = λ _. refl;
  marks = λ _ _. refl;
  bits = λ _ _. refl;
  waits = refl;
  events = refl;
  flags = refl;
}
changes_nothing s c past (Dispatch x Dispatches.Spent) h = record {
  count = refl;
  owners = λ _. refl;
  marks = λ _ _. refl;
  bits = λ _ _. refl;
  waits = refl;
  events = refl;
  flags = refl;
}
changes_nothing s c past (Close o Closes.NotOpen) h = record {
  count = refl;
  owners = λ _. refl;
  marks = λ _ _. refl;
  bits = λ _ _. refl;
  waits = refl;
  events = refl;
  flags = refl;
}
changes_nothing s c past (Open fd (Opens.Opened o)) h = absurd h
changes_nothing s c past (Report o ds (Reports.Noted e)) h = absurd h
changes_nothing s c past (Register o d m kind (Registers.Waits k e)) h = absurd h
changes_nothing s c past (Withdraw k (Withdraws.Back kind)) h = absurd h
changes_nothing s c past (Ask k (Asks.Ran d m)) h = absurd h
changes_nothing s c past (Ask k Asks.Closed) h = absurd h
changes_nothing s c past (Dispatch x (Dispatches.Ran ran e)) h = absurd h
changes_nothing s c past (Close o (Closes.Shut xs)) h = absurd h
