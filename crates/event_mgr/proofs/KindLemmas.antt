-- A reply of a stripe is one to the call that was made, and tells what the definitions say of it.
use Rattle.std.proofs.Common.{◌≡◌, ℕ, ◌%◌, ◌<◌, List, sym, ap, ◌∙◌, arith}
use Rattle.std.specs.Prelude.{Option}
use Rattle.reg_keys.specs.declared.opening.Opening.{Opening}
use Rattle.reg_keys.specs.declared.event.EventName.{EventName}
use Rattle.reg_keys.specs.declared.registration.Dir.{Dir}
use Rattle.reg_keys.specs.declared.registration.Dirs.{Dirs}
use Rattle.reg_keys.specs.declared.entry.Entry.{Entry}
use Rattle.reg_keys.specs.declared.entry.Entry.TheVariants as Entries
use Rattle.reg_keys.specs.OwnOpenings.{NamesItsOwn}
use Rattle.stripe_table.specs.Calls.{opened, reported, registered, dispatched, kind_of, entry_of, IsAnswerTo}
use Rattle.stripe_table.specs.Calls.{HandsBack, HandsEventBack, IsOfStripe}
use Rattle.stripe_table.specs.declared.load.Payload.{Payload}
use Rattle.stripe_table.specs.declared.calls.StripeCall.{StripeCall}
use Rattle.stripe_table.specs.declared.calls.StripeCall.TheVariants as Call
use Rattle.stripe_table.specs.declared.calls.Reply.{Reply}
use Rattle.stripe_table.specs.declared.calls.Reply.TheVariants as Answer
use Rattle.stripe_table.specs.declared.calls.OpenReply.{OpenReply}
use Rattle.stripe_table.specs.declared.calls.OpenReply.TheVariants as OpenAnswer
use Rattle.stripe_table.specs.declared.calls.ReportReply.{ReportReply}
use Rattle.stripe_table.specs.declared.calls.ReportReply.TheVariants as ReportAnswer
use Rattle.stripe_table.specs.declared.calls.RegisterReply.{RegisterReply}
use Rattle.stripe_table.specs.declared.calls.RegisterReply.TheVariants as RegisterAnswer
use Rattle.stripe_table.specs.declared.calls.DispatchReply.{DispatchReply}
use Rattle.stripe_table.specs.declared.calls.DispatchReply.TheVariants as DispatchAnswer
use Rattle.event_mgr.specs.Stripes.{stripe_of}
use Rattle.event_mgr.specs.Manager.{NotesFor, RegistersFor, DispatchesFor}
use Rattle.event_mgr.specs.Kinds.{OpensFor, IsAnswered}

module _ (s : ℕ) where
  open_tells : (fd : ℕ) → fd % 32 ≡ s → fd < 4096 → (r : OpenReply)
      → NamesItsOwn s (Entries.Open fd (opened r)) → OpensFor fd r
  open_tells fd of low (OpenAnswer.Opened o) own = let at = own.descriptor in (
    own.descriptor,
    record {
      descriptor = omega arith;
      number = own.small;
      stripe = own.stripe ∙ (sym of ∙ ap stripe_of (sym own.descriptor));
    },
  )
  open_tells fd of low (OpenAnswer.Taken o) own = own.descriptor
  open_tells fd of low OpenAnswer.Spent own = tt

  report_tells : (o : Opening) (ds : Dirs) (r : ReportReply)
      → NamesItsOwn s (Entries.Report o ds (reported r)) → NotesFor o r
  report_tells o ds (ReportAnswer.Noted e) own = own
  report_tells o ds ReportAnswer.Stale own = tt
  report_tells o ds ReportAnswer.Spent own = tt

  module _ {T : Type 0} (tag : T → List (List ℕ)) where
    register_tells : (o : Opening) (d : Dir) (m : Option ℕ) (load : Payload T) → o.fd % 32 ≡ s
        → (r : RegisterReply T) → HandsBack load r
        → NamesItsOwn s (Entries.Register o d m (kind_of tag load) (registered r)) → RegistersFor o load r
    register_tells o d m load of (RegisterAnswer.Shut back) same own = same
    register_tells o d m load of (RegisterAnswer.Crowded back) same own = same
    register_tells o d m load of (RegisterAnswer.Spent back) same own = same
    register_tells o d m load of (RegisterAnswer.Waits key e) same own = (own.0 ∙ sym of, own.1)

    dispatch_tells : (x : EventName) (r : DispatchReply T) → HandsEventBack x r
        → NamesItsOwn s (Entries.Dispatch x (dispatched tag r)) → DispatchesFor x r
    dispatch_tells x (DispatchAnswer.Spent back) same own = same
    dispatch_tells x DispatchAnswer.Stale same own = tt
    dispatch_tells x (DispatchAnswer.Ran list e) same own = own

    -- the reply is one to the call, and tells what it must
    pub answered : (Made : Entry → Type 0) (call : StripeCall T) (reply : Reply T) → IsOfStripe s call
        → IsAnswerTo call reply → Made (entry_of tag call reply) → NamesItsOwn s (entry_of tag call reply)
        → IsAnswered tag Made call reply
    answered Made (Call.Open fd) (Answer.Open r) may kind made own = (made, open_tells fd may.0 may.1 r own)
    answered Made (Call.Report o ds) (Answer.Report r) may kind made own = (made, report_tells o ds r own)
    answered Made (Call.Register o d m load) (Answer.Register r) may kind made own =
        (made, register_tells o d m load may r kind own)
    answered Made (Call.Withdraw key) (Answer.Withdraw r) may kind made own = made
    answered Made (Call.Ask key) (Answer.Ask r) may kind made own = made
    answered Made (Call.Dispatch x) (Answer.Dispatch r) may kind made own =
        (made, dispatch_tells x r kind own)
    answered Made (Call.Close o) (Answer.Close r) may kind made own = made
    answered Made _ _ may kind made own = absurd kind
