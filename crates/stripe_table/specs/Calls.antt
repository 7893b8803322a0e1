-- To be believed: the entry that a call on a stripe and its reply make, which reply belongs to which call,
-- and which calls a stripe takes.
use Rattle.std.specs.Prelude.{◌≡◌, ℕ, ◌<◌, ◌%◌, List, [], ◌∷◌, map, Option, Some, None}
use Rattle.reg_keys.specs.declared.event.EventName.{EventName}
use Rattle.reg_keys.specs.declared.registration.Key.{Key}
use Rattle.reg_keys.specs.declared.entry.LoadKind.{LoadKind}
use Rattle.reg_keys.specs.declared.entry.LoadKind.TheVariants as Kinds
use Rattle.reg_keys.specs.declared.entry.FiredKey.{FiredKey}
use Rattle.reg_keys.specs.declared.entry.ShutKey.{ShutKey}
use Rattle.reg_keys.specs.declared.entry.OpenOutcome.{OpenOutcome}
use Rattle.reg_keys.specs.declared.entry.OpenOutcome.TheVariants as Opens
use Rattle.reg_keys.specs.declared.entry.ReportOutcome.{ReportOutcome}
use Rattle.reg_keys.specs.declared.entry.ReportOutcome.TheVariants as Reports
use Rattle.reg_keys.specs.declared.entry.RegisterOutcome.{RegisterOutcome}
use Rattle.reg_keys.specs.declared.entry.RegisterOutcome.TheVariants as Registers
use Rattle.reg_keys.specs.declared.entry.WithdrawOutcome.{WithdrawOutcome}
use Rattle.reg_keys.specs.declared.entry.WithdrawOutcome.TheVariants as Withdraws
use Rattle.reg_keys.specs.declared.entry.AskOutcome.{AskOutcome}
use Rattle.reg_keys.specs.declared.entry.AskOutcome.TheVariants as Asks
use Rattle.reg_keys.specs.declared.entry.DispatchOutcome.{DispatchOutcome}
use Rattle.reg_keys.specs.declared.entry.DispatchOutcome.TheVariants as Dispatches
use Rattle.reg_keys.specs.declared.entry.CloseOutcome.{CloseOutcome}
use Rattle.reg_keys.specs.declared.entry.CloseOutcome.TheVariants as Closes
use Rattle.reg_keys.specs.declared.entry.Entry.{Entry}
use Rattle.reg_keys.specs.declared.entry.Entry.TheVariants.{Open, Report, Register, Withdraw, Ask, Dispatch}
use Rattle.reg_keys.specs.declared.entry.Entry.TheVariants.{Close}
use Rattle.stripe_table.specs.declared.load.Payload.{Payload}
use Rattle.stripe_table.specs.declared.load.Payload.TheVariants.{Job, Flag}
use Rattle.stripe_table.specs.declared.calls.Fired.{Fired}
use Rattle.stripe_table.specs.declared.calls.StripeCall.{StripeCall}
use Rattle.stripe_table.specs.declared.calls.StripeCall.TheVariants as Call
use Rattle.stripe_table.specs.declared.calls.Reply.{Reply}
use Rattle.stripe_table.specs.declared.calls.Reply.TheVariants as Answer
use Rattle.stripe_table.specs.declared.calls.OpenReply.{OpenReply}
use Rattle.stripe_table.specs.declared.calls.OpenReply.TheVariants as OpenAnswer
use Rattle.stripe_table.specs.declared.calls.ReportReply.{ReportReply}
use Rattle.stripe_table.specs.declared.calls.ReportReply.TheVariants as ReportAnswer
use Rattle.stripe_table.specs.declared.calls.RegisterReply.{RegisterReply}
use Rattle.stripe_table.specs.declared.calls.RegisterReply.TheVariants as RegisterAnswer
use Rattle.stripe_table.specs.declared.calls.WithdrawReply.{WithdrawReply}
use Rattle.stripe_table.specs.declared.calls.WithdrawReply.TheVariants as WithdrawAnswer
use Rattle.stripe_table.specs.declared.calls.AskReply.{AskReply}
use Rattle.stripe_table.specs.declared.calls.AskReply.TheVariants as AskAnswer
use Rattle.stripe_table.specs.declared.calls.DispatchReply.{DispatchReply}
use Rattle.stripe_table.specs.declared.calls.DispatchReply.TheVariants as DispatchAnswer
use Rattle.stripe_table.specs.declared.calls.CloseReply.{CloseReply}
use Rattle.stripe_table.specs.declared.calls.CloseReply.TheVariants as CloseAnswer

-- how an open came out, by its reply
abbrev pub opened : OpenReply → OpenOutcome
opened (OpenAnswer.Taken o) = Opens.Taken o
opened OpenAnswer.Spent = Opens.Spent
opened (OpenAnswer.Opened o) = Opens.Opened o

-- how a report came out, by its reply
abbrev pub reported : ReportReply → ReportOutcome
reported ReportAnswer.Stale = Reports.Stale
reported ReportAnswer.Spent = Reports.Spent
reported (ReportAnswer.Noted e) = Reports.Noted e

-- what a flag's owner was told, by the reply
abbrev pub asked : AskReply → AskOutcome
asked AskAnswer.Unknown = Asks.Unknown
asked AskAnswer.Waiting = Asks.Waiting
asked (AskAnswer.Ran d m) = Asks.Ran d m
asked AskAnswer.Closed = Asks.Closed

module _ {T : Type 0} (tag : T → List (List ℕ)) where
  -- what an entry says of a load: a job's tag, or that it is a flag
  abbrev pub kind_of : Payload T → LoadKind
  kind_of (Job x) = Kinds.Job (tag x)
  kind_of Flag = Kinds.Flag

  -- the same of a job that is handed out, or of nothing for a flag
  abbrev pub kind_of_job : Option T → LoadKind
  kind_of_job (Some x) = Kinds.Job (tag x)
  kind_of_job None = Kinds.Flag

  -- a registration that ran, as an entry has it
  abbrev pub fired_key : Fired T → FiredKey
  fired_key r = record { key = r.key; dir = r.dir; marks = r.marks; kind = kind_of_job r.job }

  -- a registration that a close gave back, as an entry has it
  abbrev pub shut_key : Key × Option T → ShutKey
  shut_key x = record { key = x.0; kind = kind_of_job x.1 }

  -- how a withdrawal came out, by its reply
  abbrev pub withdrawn : WithdrawReply T → WithdrawOutcome
  withdrawn WithdrawAnswer.Gone = Withdraws.Gone
  withdrawn (WithdrawAnswer.Back job) = Withdraws.Back (kind_of_job job)

  -- how a dispatch came out, by its reply
  abbrev pub dispatched : DispatchReply T → DispatchOutcome
  dispatched DispatchAnswer.Stale = Dispatches.Stale
  dispatched (DispatchAnswer.Spent e) = Dispatches.Spent
  dispatched (DispatchAnswer.Ran list e) = Dispatches.Ran (map fired_key list) e

  -- how a close came out, by its reply
  abbrev pub closed : CloseReply T → CloseOutcome
  closed CloseAnswer.NotOpen = Closes.NotOpen
  closed (CloseAnswer.Shut list) = Closes.Shut (map shut_key list)

module _ {T : Type 0} where
  -- how a registration came out, by its reply
  abbrev pub registered : RegisterReply T → RegisterOutcome
  registered (RegisterAnswer.Shut load) = Registers.Shut
  registered (RegisterAnswer.Crowded load) = Registers.Crowded
  registered (RegisterAnswer.Spent load) = Registers.Spent
  registered (RegisterAnswer.Waits key e) = Registers.Waits key e

module _ {T : Type 0} where
  -- a registration that is refused hands its load back
  abbrev pub HandsBack : Payload T → RegisterReply T → Type 0
  HandsBack load (RegisterAnswer.Shut back) = back ≡ load
  HandsBack load (RegisterAnswer.Crowded back) = back ≡ load
  HandsBack load (RegisterAnswer.Spent back) = back ≡ load
  HandsBack load (RegisterAnswer.Waits key e) = Unit {0}

  -- a dispatch that is refused hands its event back
  abbrev pub HandsEventBack : EventName → DispatchReply T → Type 0
  HandsEventBack event (DispatchAnswer.Spent back) = back ≡ event
  HandsEventBack event _ = Unit {0}

-- the entry of a reply to another call, which never comes: the opening isn't on its own
-- descriptor, so no legal history has it
abbrev pub no_entry : Entry
no_entry = Open 0 (Opens.Opened (record { number = 0; fd = 1 }))

module _ {T : Type 0} (tag : T → List (List ℕ)) where
  -- the entry that a call and its reply make
  abbrev pub entry_of : StripeCall T → Reply T → Entry
  entry_of (Call.Open fd) (Answer.Open r) = Open fd (opened r)
  entry_of (Call.Report o ds) (Answer.Report r) = Report o ds (reported r)
  entry_of (Call.Register o d m load) (Answer.Register r) = Register o d m (kind_of tag load) (registered r)
  entry_of (Call.Withdraw key) (Answer.Withdraw r) = Withdraw key (withdrawn tag r)
  entry_of (Call.Ask key) (Answer.Ask r) = Ask key (asked r)
  entry_of (Call.Dispatch e) (Answer.Dispatch r) = Dispatch e (dispatched tag r)
  entry_of (Call.Close o) (Answer.Close r) = Close o (closed tag r)
  entry_of _ _ = no_entry

module _ {T : Type 0} where
  -- the reply is of its call's kind, and a refusal hands back the very load or event that came
  abbrev pub IsAnswerTo : StripeCall T → Reply T → Type 0
  IsAnswerTo (Call.Open fd) (Answer.Open r) = Unit {0}
  IsAnswerTo (Call.Report o ds) (Answer.Report r) = Unit {0}
  IsAnswerTo (Call.Register o d m load) (Answer.Register r) = HandsBack load r
  IsAnswerTo (Call.Withdraw key) (Answer.Withdraw r) = Unit {0}
  IsAnswerTo (Call.Ask key) (Answer.Ask r) = Unit {0}
  IsAnswerTo (Call.Dispatch e) (Answer.Dispatch r) = HandsEventBack e r
  IsAnswerTo (Call.Close o) (Answer.Close r) = Unit {0}
  IsAnswerTo _ _ = ⊥

module _ {T : Type 0} where
  -- the descriptor, opening, key or event of a call is of the stripe
  abbrev pub IsOfStripe : ℕ → StripeCall T → Type 0
  IsOfStripe s (Call.Open fd) = (fd % 32 ≡ s) × (fd < 4096)
  IsOfStripe s (Call.Report o ds) = o.fd % 32 ≡ s
  IsOfStripe s (Call.Register o d m load) = o.fd % 32 ≡ s
  IsOfStripe s (Call.Withdraw key) = key.number % 32 ≡ s
  IsOfStripe s (Call.Ask key) = key.number % 32 ≡ s
  IsOfStripe s (Call.Dispatch e) = e.opening.fd % 32 ≡ s
  IsOfStripe s (Call.Close o) = o.fd % 32 ≡ s

  -- a stripe's name is its number and its first count
  abbrev pub call_may : List ℕ → StripeCall T → Type 0
  call_may [] call = Unit {0}
  call_may (s ∷ rest) call = IsOfStripe s call
