-- What a step that writes or ends makes of what a connection stands for.
use Rattle.std.proofs.Common.{◌≡◌, ℕ, Bool, List, [], ◌++◌, Option, Some, None, inl, inr, refl, sym, ap, ◌∙◌}
use Rattle.std.proofs.Common.{subst}
use Rattle.std.specs.Prelude.{◌⊎◌}
use Rattle.outside.specs.Causes.{LinkTold}
use Rattle.conn_loop.specs.declared.step.Step.{Step}
use Rattle.conn_loop.specs.declared.step.Step.TheVariants.{WantWrite, Done}
use Rattle.conn_loop.specs.declared.step.End.{End}
use Rattle.conn_loop.specs.declared.step.End.TheVariants.{Clean, Cut, ReadFault, WriteFault, FileFault}
use Rattle.conn_loop.specs.declared.step.End.TheVariants.{NoMemory}
use Rattle.conn_loop.specs.declared.writing.WriteEnd.{WriteEnd}
use Rattle.conn_loop.specs.declared.writing.WriteEnd.TheVariants.{All, Waits, Fails}
use Rattle.conn_loop.specs.Ends.{StepImplies, GoesOn}
use Rattle.conn_loop.specs.Stages.{Stage, unread, short, reading, refusing, ready, wanting, sending, unmade}
use Rattle.conn_loop.specs.Stages.{broken, finished, failing, HasNoContent}
use Rattle.conn_loop.specs.Moves.{Sends}
use Rattle.conn_loop.specs.Replying.{Serving, replies}
use Rattle.conn_loop.specs.ConnState.{ConnState, Accounts, HoldsAt}
use Rattle.conn_loop.specs.Steps.{Comes, ComesFor, IsFailing, MayEnd}
use Rattle.conn_loop.specs.Writing.{Leaves}
use Rattle.conn_loop.proofs.AheadLemmas.{IsUnanswered}
use Rattle.conn_loop.proofs.AccountLemmas.{accounts_send}
use Rattle.conn_loop.proofs.AccountImpliesLemmas.{part_of, whole_closed, short_of, broken_of, closed_of}
use Rattle.conn_loop.proofs.ToldLemmas.{told_kept, told_sent}

-- ---- writing

-- what is answered where writing stopped
abbrev pub due_step : WriteEnd → Option Step
due_step All = None
due_step Waits = Some WantWrite
due_step Fails = Some (Done WriteFault)

at_due : (end : WriteEnd) (serving : Serving) (c : ConnState) (t s : List ℕ) (ended : Option Bool)
    → Leaves end c.pending → Accounts serving c t s → GoesOn ended
    → HoldsAt (due_step end) serving c.moments t s ended
at_due All serving c t s ended leaves x goes = goes
at_due Waits serving c t s ended leaves x goes = (part_of serving c t s leaves x, goes)
at_due Fails serving c t s ended leaves x goes = (part_of serving c t s leaves x, goes)

comes_due : (end : WriteEnd) (serving : Serving) (old new : ConnState) (t s : List ℕ) (k l : LinkTold)
    (ended : Option Bool) (sends : Sends end old new k l)
    → Comes None serving old t s ended → Comes (due_step end) serving new t (s ++ sends.writes.front) ended
comes_due end serving old new t s k l ended sends x =
    let front = sends.writes.front in
    let accounts : Accounts serving new t (s ++ front) =
    subst (λ (c : ConnState). Accounts serving c t (s ++ front)) (sym sends.same)
    (accounts_send serving old t s front new.pending new.bytes new.waits sends.writes.split x.accounts) in
    record {
      accounts = accounts;
      at = at_due end serving new t (s ++ front) ended sends.writes.left accounts x.at;
    }

-- writing, as far as the link takes it
pub due_for : (end : WriteEnd) (serving : Option Serving) (old new : ConnState) (link later : LinkTold)
    → Sends end old new link later → ComesFor None serving old link
    → ComesFor (due_step end) serving new later
due_for end serving old new link later sends x =
    let ran = sends.writes.ran in
    told_sent (λ r t s. Comes None r old t s link.ended)
    (λ r t s. Comes (due_step end) r new t s later.ended) serving link later sends.writes.front
    (ap (λ (v : LinkTold). v.taken) ran.same) ran.sends
    (λ r t s y. subst (λ (e : Option Bool). Comes (due_step end) r new t (s ++ sends.writes.front) e)
    (sym (ap (λ (v : LinkTold). v.ended) ran.same))
    (comes_due end r old new t s link later link.ended sends y)) x

-- ---- ending

-- a connection that fails has its request unanswered, or its file broken
abbrev FailsAt : End → Stage → Type 0
FailsAt end stage =
    (IsUnanswered stage × HasNoContent stage) ⊎ ((at : ℕ) × (stage ≡ broken at) × (end ≡ FileFault))

fails_at : (end : End) (stage : Stage) → failing stage ≡ Some end → FailsAt end stage
fails_at end unread is = cc
fails_at end short is = cc
fails_at end (reading a reader room) is = cc
fails_at end (refusing code) is = cc
fails_at end (ready a behind seen path) is = cc
fails_at end (wanting a behind seen path) is = cc
fails_at end (sending at size) is = cc
fails_at end (unmade other) is = inl (tt, tt)
fails_at end (broken at) is = inr (at, refl, cc)
fails_at end finished is = cc

at_fault : (serving : Serving) (c : ConnState) (t s : List ℕ) (ended : Option Bool) → IsFailing FileFault c
    → c.pending ≡ [] → Accounts serving c t s → GoesOn ended
    → StepImplies (Done FileFault) (replies serving) c.moments t s ended
at_fault serving c t s ended may empty x goes = elim (fails_at FileFault c.stage may.fails) [
  | inl there ↦ (inl (short_of serving c t s empty (may.some there.1) there.0 x), goes)
  | inr there ↦ (inr (broken_of serving c t s there.0 empty there.1 x), goes)
]

at_want : (serving : Serving) (c : ConnState) (t s : List ℕ) (ended : Option Bool) → IsFailing NoMemory c
    → c.pending ≡ [] → Accounts serving c t s → GoesOn ended
    → StepImplies (Done NoMemory) (replies serving) c.moments t s ended
at_want serving c t s ended may empty x goes = elim (fails_at NoMemory c.stage may.fails) [
  | inl there ↦ (short_of serving c t s empty (may.some there.1) there.0 x, goes)
  | inr there ↦ absurd (let no_way : NoMemory ≡ FileFault = there.2 in cc)
]

at_end : (end : End) (serving : Serving) (c : ConnState) (t s : List ℕ) (ended : Option Bool)
    → MayEnd end c → c.pending ≡ []
    → Accounts serving c t s → GoesOn ended → StepImplies (Done end) (replies serving) c.moments t s ended
at_end Clean serving c t s ended may empty x goes =
    record {
      whole = whole_closed serving c t s empty may.1 may.0 x;
      over = inl (closed_of serving c t s may.0 x);
    }
at_end Cut serving c t s ended may empty x goes = absurd may
at_end ReadFault serving c t s ended may empty x goes = absurd may
at_end WriteFault serving c t s ended may empty x goes = absurd may
at_end FileFault serving c t s ended may empty x goes = at_fault serving c t s ended may empty x goes
at_end NoMemory serving c t s ended may empty x goes = at_want serving c t s ended may empty x goes

may_kept : (end : End) (old new : ConnState) → new.left ≡ old.left → new.stage ≡ old.stage
    → MayEnd end old → MayEnd end new
may_kept Clean old new left stage may = (left ∙ may.0, rw stage may.1)
may_kept Cut old new left stage may = may
may_kept ReadFault old new left stage may = may
may_kept WriteFault old new left stage may = may
may_kept FileFault old new left stage may = record {
  fails = ap (λ (st : Stage). failing st) stage ∙ may.fails;
  some = λ none. rw left (may.some (rw (← stage) none));
}
may_kept NoMemory old new left stage may = record {
  fails = ap (λ (st : Stage). failing st) stage ∙ may.fails;
  some = λ none. rw left (may.some (rw (← stage) none));
}

-- all is written, and the connection ends
pub end_for : (end : End) (serving : Option Serving) (old new : ConnState) (link : LinkTold)
    → MayEnd end old → new.pending ≡ []
    → new ≡ record old { pending = new.pending; bytes = new.bytes; waits = new.waits }
    → ComesFor None serving new link → ComesFor (Some (Done end)) serving new link
end_for end serving old new link may empty same x =
    let there : MayEnd end new =
    may_kept end old new (ap (λ (c : ConnState). c.left) same) (ap (λ (c : ConnState). c.stage) same) may in
    told_kept (λ r t s. Comes None r new t s link.ended)
    (λ r t s. Comes (Some (Done end)) r new t s link.ended) serving link
    (λ r t s y.
    record { accounts = y.accounts; at = at_end end r new t s link.ended there empty y.accounts y.at }) x
