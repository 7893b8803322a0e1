-- Inner: what a call on a stripe says, whichever call it is: its reply is one to this
-- call, and stands in the entry.
use Rattle.std.specs.Prelude.{◌≡◌, ℕ, List}
use Rattle.reg_keys.specs.declared.entry.Entry.{Entry}
use Rattle.reg_keys.specs.declared.entry.Entry.TheVariants as Entries
use Rattle.turn_cell.specs.declared.pass.Stepped.{Stepped}
use Rattle.turn_cell.specs.declared.pass.Stepped.TheVariants as Whole
use Rattle.turn_cell.specs.declared.pass.Tried.{Tried}
use Rattle.turn_cell.specs.declared.pass.Tried.TheVariants as Try
use Rattle.stripe_table.specs.Calls.{opened, reported, registered, withdrawn, asked, dispatched, closed}
use Rattle.stripe_table.specs.Calls.{kind_of}
use Rattle.stripe_table.specs.declared.stripe.Stripe.{Stripe}
use Rattle.stripe_table.specs.declared.calls.StripeCall.{StripeCall}
use Rattle.stripe_table.specs.declared.calls.StripeCall.TheVariants as Call
use Rattle.stripe_table.specs.declared.calls.Reply.{Reply}
use Rattle.stripe_table.specs.declared.calls.Reply.TheVariants as Answer
use Rattle.stripe_table.specs.declared.calls.OpenReply.{OpenReply}
use Rattle.stripe_table.specs.declared.calls.OpenReply.TheVariants as OpenAnswer
use Rattle.event_mgr.specs.Manager.{MgrView, EnteredAt, SpentAt, TriedAt, TriedSpentAt, BusyAt, IsWellFormed}
use Rattle.event_mgr.specs.Manager.{NotesFor, RegistersFor, DispatchesFor}

-- what is opened is an opening of this descriptor, and so is one that has it
abbrev pub OpensFor : ℕ → OpenReply → Type 0
OpensFor fd (OpenAnswer.Opened o) = (o.fd ≡ fd) × IsWellFormed o
OpensFor fd (OpenAnswer.Taken o) = o.fd ≡ fd
OpensFor fd OpenAnswer.Spent = Unit {0}

module _ {T : Type 0} (tag : T → List (List ℕ)) (Made : Entry → Type 0) where
  -- the reply is one to this call, and an entry was made of them, given what that is
  abbrev pub IsAnswered : StripeCall T → Reply T → Type 0
  IsAnswered (Call.Open fd) (Answer.Open r) = Made (Entries.Open fd (opened r)) × OpensFor fd r
  IsAnswered (Call.Report o ds) (Answer.Report r) = Made (Entries.Report o ds (reported r)) × NotesFor o r
  IsAnswered (Call.Register o d m load) (Answer.Register r) =
      Made (Entries.Register o d m (kind_of tag load) (registered r)) × RegistersFor o load r
  IsAnswered (Call.Withdraw key) (Answer.Withdraw r) = Made (Entries.Withdraw key (withdrawn tag r))
  IsAnswered (Call.Ask key) (Answer.Ask r) = Made (Entries.Ask key (asked r))
  IsAnswered (Call.Dispatch x) (Answer.Dispatch r) =
      Made (Entries.Dispatch x (dispatched tag r)) × DispatchesFor x r
  IsAnswered (Call.Close o) (Answer.Close r) = Made (Entries.Close o (closed tag r))
  IsAnswered _ _ = ⊥

module _ {T : Type 0} (tag : T → List (List ℕ)) where
  -- what each answer of a call on a stripe says that waits for its turn
  abbrev pub HasCalled : ℕ → StripeCall T → MgrView → Stepped (Stripe T) (StripeCall T) (Reply T) Entry
      → MgrView → Type 0
  HasCalled s call v (Whole.Done reply) w = IsAnswered tag (λ e. EnteredAt s e v w) call reply
  HasCalled s call v (Whole.Spent back) w = (back ≡ call) × SpentAt s v w

  -- the same of one that makes one try
  abbrev pub HasTried : ℕ → StripeCall T → MgrView → Tried (Stripe T) (StripeCall T) (Reply T) Entry
      → MgrView → Type 0
  HasTried s call v (Try.Done reply) w = IsAnswered tag (λ e. TriedAt s e v w) call reply
  HasTried s call v (Try.Busy count back) w =
      (back ≡ call) × BusyAt s (record { stripe = s; count = count }) v w
  HasTried s call v (Try.Spent back) w = (back ≡ call) × TriedSpentAt s v w

module _ {T : Type 0} where
  -- the reply is one to a call of this kind
  abbrev pub IsOfKind : {X : Type 0} → (X → Reply T) → Reply T → Type 0
  IsOfKind kind reply = (r : _) × (reply ≡ kind r)
