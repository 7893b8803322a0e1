-- What a book counts as turned away or timed out, by the journal of its dispatcher.
use Rattle.std.proofs.Common.{◌≡◌, ℕ, ◌+◌, ◌≤◌, List, [], ◌∷◌, Bool, true, false, refl, ap, arith}
use Rattle.reg_keys.specs.declared.opening.Opening.{Opening}
use Rattle.reg_keys.specs.declared.entry.Entry.{Entry}
use Rattle.reg_keys.specs.declared.entry.Entry.TheVariants as Entries
use Rattle.reg_keys.specs.declared.entry.CloseOutcome.{CloseOutcome}
use Rattle.reg_keys.specs.declared.entry.CloseOutcome.TheVariants as Closes
use Rattle.reg_keys.specs.declared.entry.ShutKey.{ShutKey}
use Rattle.reg_keys.specs.Tests.{total}
use Rattle.turn_cell.specs.Weights.{weigh}
use Rattle.timeout_mgr.specs.declared.view.TimeCall.{TimeCall}
use Rattle.timeout_mgr.specs.declared.view.TimeCall.TheVariants.{Tickle}
use Rattle.event_mgr.specs.Manager.{own_weight}
use Rattle.conn_loop.specs.declared.step.End.{End}
use Rattle.conn_loop.specs.declared.step.End.TheVariants as Ends
use Rattle.warp_books.specs.declared.finish.Finish.{Finish}
use Rattle.warp_books.specs.declared.finish.Finish.TheVariants.{Ended, TimedOut, TurnedAway}
use Rattle.warp_books.specs.declared.finish.Turned.TheVariants.{Watches, Crowded, Shut}
use Rattle.warp_books.specs.Books.{BookTold, capped}
use Rattle.warp_jobs.specs.Held.{Held}
use Rattle.warp_passes.specs.Passes.{PassView}
use Rattle.warp_runner.specs.Acts.{ServeTold, told_of}
use Rattle.warp_runner.specs.Deeds.{end_of_shut, shut_by}
use Rattle.warp_runner.specs.Journal.{Deed, IsOfServer, JournalFits, all_of}
use Rattle.whole_runs.specs.EndCauses.{AllEndsRest, EndsRest, finds_crowd, finds_no_watch, finds_shut}
use Rattle.whole_runs.specs.EndCauses.{finds_watch_gone, is_connections_job, lets_go}
use Rattle.whole_runs.proofs.Flows.{AreExplainedBy}
use Rattle.whole_runs.proofs.EndCauses.{Covers, ends_in, is_end, journal_pays}

-- a weight of no call
abbrev no_call : TimeCall → ℕ
no_call c = 0

abbrev no_entry : Entry → ℕ
no_entry e = 0

none_due : (due : ShutKey → ℕ) → ((x : ShutKey) → due x ≡ 0) → (xs : List ShutKey) → total due xs ≡ 0
none_due due zero [] = refl
none_due due zero (x ∷ xs) = let a = zero x in let r = none_due due zero xs in omega arith

-- ---- each of the four kinds

watches_cover : Covers (TurnedAway Watches) finds_no_watch no_entry
watches_cover = record {
  ended = own;
  poller = refl;
  full = λ o. omega arith;
  crowded = λ h d m. omega arith;
  shut = λ h d m alive. shut alive;
  gone = λ w. omega arith;
  due = λ x. 0;
  owes = λ h x is. omega arith;
  closed = λ o s. let z = none_due (λ x. 0) (λ x. refl) (shut_by s) in omega arith;
}
  where
    own : (end : End) → is_end (TurnedAway Watches) (Ended end) ≡ 0
    own Ends.Clean = refl
    own Ends.Cut = refl
    own Ends.ReadFault = refl
    own Ends.WriteFault = refl
    own Ends.FileFault = refl
    own Ends.NoMemory = refl

    shut : {n : ℕ} (alive : Bool) → is_end (TurnedAway Watches) (end_of_shut alive) ≤ n
    shut true = omega arith
    shut false = omega arith

crowded_cover : Covers (TurnedAway Crowded) no_call finds_crowd
crowded_cover = record {
  ended = own;
  poller = refl;
  full = λ o. omega arith;
  crowded = λ h d m. omega arith;
  shut = λ h d m alive. shut alive;
  gone = λ w. omega arith;
  due = λ x. 0;
  owes = λ h x is. omega arith;
  closed = λ o s. let z = none_due (λ x. 0) (λ x. refl) (shut_by s) in omega arith;
}
  where
    own : (end : End) → is_end (TurnedAway Crowded) (Ended end) ≡ 0
    own Ends.Clean = refl
    own Ends.Cut = refl
    own Ends.ReadFault = refl
    own Ends.WriteFault = refl
    own Ends.FileFault = refl
    own Ends.NoMemory = refl

    shut : {n : ℕ} (alive : Bool) → is_end (TurnedAway Crowded) (end_of_shut alive) ≤ n
    shut true = omega arith
    shut false = omega arith

shut_cover : Covers (TurnedAway Shut) no_call finds_shut
shut_cover = record {
  ended = own;
  poller = refl;
  full = λ o. omega arith;
  crowded = λ h d m. omega arith;
  shut = λ h d m alive. shut alive;
  gone = λ w. omega arith;
  due = λ x. 0;
  owes = λ h x is. omega arith;
  closed = λ o s. let z = none_due (λ x. 0) (λ x. refl) (shut_by s) in omega arith;
}
  where
    own : (end : End) → is_end (TurnedAway Shut) (Ended end) ≡ 0
    own Ends.Clean = refl
    own Ends.Cut = refl
    own Ends.ReadFault = refl
    own Ends.WriteFault = refl
    own Ends.FileFault = refl
    own Ends.NoMemory = refl

    shut : (alive : Bool) → is_end (TurnedAway Shut) (end_of_shut alive) ≤ 1 + 0
    shut true = omega arith
    shut false = omega arith

timed_out_covers : Covers TimedOut finds_watch_gone lets_go
timed_out_covers = record {
  ended = own;
  poller = refl;
  full = λ o. omega arith;
  crowded = λ h d m. omega arith;
  shut = λ h d m alive. shut h alive;
  gone = λ w. omega arith;
  due = λ x. is_connections_job x.kind;
  owes = λ h x is. let one = ap is_connections_job is in omega arith;
  closed = closes;
}
  where
    own : (end : End) → is_end TimedOut (Ended end) ≡ 0
    own Ends.Clean = refl
    own Ends.Cut = refl
    own Ends.ReadFault = refl
    own Ends.WriteFault = refl
    own Ends.FileFault = refl
    own Ends.NoMemory = refl

    shut : (h : Held) (alive : Bool) → is_end TimedOut (end_of_shut alive) ≤ 0 + finds_watch_gone (Tickle h.watch alive)
    shut h true = omega arith
    shut h false = omega arith

    closes : (o : Opening) (s : CloseOutcome)
        → total (λ (x : ShutKey). is_connections_job x.kind) (shut_by s) ≤ lets_go (Entries.Close o s)
    closes o Closes.NotOpen = omega arith
    closes o (Closes.Shut list) = omega arith

-- ---- one dispatcher

capped_le : (n : ℕ) → capped n ≤ n
capped_le n = omega arith

ends_le : (k : Finish) (tf : TimeCall → ℕ) (cf : Entry → ℕ) → Covers k tf cf → IsOfServer cf
    → (limit : ℕ) (u : ServeTold) → JournalFits limit u []
    → u.book.sums.ends k ≤ weigh tf u.timed + own_weight cf u.mgr
ends_le k tf cf covers of limit u fits =
    let deeds = fits.deeds in
    let p = journal_pays k tf cf covers limit deeds fits.explains.lawful in
    let t = ap (weigh tf) fits.explains.timed in
    let c = fits.explains.calls cf of in
    let b = fits.explains.book.ends k in
    let l = capped_le (ends_in k (all_of (λ d. d.acts.handed) deeds)) in
    omega arith

of_server : (f : Entry → ℕ) → ((o : Opening) (ds : _) (r : _) → f (Entries.Report o ds r) ≡ 0)
    → ((x : _) (r : _) → f (Entries.Dispatch x r) ≡ 0) → IsOfServer f
of_server f a b = record { reports = a; dispatches = b }

no_call_weight : (cs : List TimeCall) → weigh no_call cs ≡ 0
no_call_weight [] = refl
no_call_weight (c ∷ cs) = let r = no_call_weight cs in omega arith

module _ {A L : Type 0} (known : A → PassView L) where
  abbrev served : A → BookTold → ServeTold
  served x b = told_of (known x).mgr (known x).tally (known x).times b

  one_rests : (limit : ℕ) (x : A) (b : BookTold) → JournalFits limit (served x b) [] → EndsRest known x b
  one_rests limit x b fits =
      let u = served x b in record {
        watches =
            let e =
            ends_le (TurnedAway Watches) finds_no_watch no_entry watches_cover
            (of_server no_entry (λ o ds r. refl) (λ y r. refl)) limit u fits in
            let z = fits.explains.calls no_entry (of_server no_entry (λ o ds r. refl) (λ y r. refl)) in
            let n = no_weight (all_of (λ (d : Deed). d.acts.calls) fits.deeds) in omega arith;
        crowded =
            let e =
            ends_le (TurnedAway Crowded) no_call finds_crowd crowded_cover
            (of_server finds_crowd (λ o ds r. refl) (λ y r. refl)) limit u fits in
            let z = no_call_weight u.timed in omega arith;
        shut =
            let e =
            ends_le (TurnedAway Shut) no_call finds_shut shut_cover
            (of_server finds_shut (λ o ds r. refl) (λ y r. refl)) limit u fits in
            let z = no_call_weight u.timed in omega arith;
        timed_out =
            ends_le TimedOut finds_watch_gone lets_go timed_out_covers
            (of_server lets_go (λ o ds r. refl) (λ y r. refl)) limit u fits;
      }
    where
      no_weight : (es : List Entry) → weigh no_entry es ≡ 0
      no_weight [] = refl
      no_weight (e ∷ es) = let r = no_weight es in omega arith

  pub all_rest : (limit : ℕ) (xs : List A) (books : List BookTold) → AreExplainedBy known limit xs books
      → AllEndsRest known xs books
  all_rest limit [] [] explained = tt
  all_rest limit [] (b ∷ books) explained = absurd explained
  all_rest limit (x ∷ xs) [] explained = absurd explained
  all_rest limit (x ∷ xs) (b ∷ books) explained =
      (one_rests limit x b explained.0, all_rest limit xs books explained.1)
