-- Each connection that is handed over as turned away or timed out is paid for by a call of the same deed.
use Rattle.std.proofs.Common.{◌≡◌, ℕ, ◌+◌, ◌≤◌, List, [], ◌∷◌, Bool, true, false, ⊎_elim, refl, sym, ap}
use Rattle.std.proofs.Common.{◌∙◌, subst, arith}
use Rattle.std.specs.Prelude.{Option, Some, None}
use Rattle.reg_keys.specs.declared.opening.Opening.{Opening}
use Rattle.reg_keys.specs.declared.registration.Dir.{Dir}
use Rattle.reg_keys.specs.declared.registration.Dir.TheVariants as Dirs
use Rattle.reg_keys.specs.declared.registration.Marks.{Marks}
use Rattle.reg_keys.specs.declared.entry.Entry.{Entry}
use Rattle.reg_keys.specs.declared.entry.Entry.TheVariants as Entries
use Rattle.reg_keys.specs.declared.entry.LoadKind.TheVariants as Kinds
use Rattle.reg_keys.specs.declared.entry.OpenOutcome.TheVariants as Opens
use Rattle.reg_keys.specs.declared.entry.RegisterOutcome.TheVariants as Registers
use Rattle.reg_keys.specs.declared.entry.CloseOutcome.{CloseOutcome}
use Rattle.reg_keys.specs.declared.entry.ShutKey.{ShutKey}
use Rattle.reg_keys.specs.Tests.{one_if, total}
use Rattle.turn_cell.specs.Weights.{weigh}
use Rattle.turn_cell.specs.ListLaws.{weigh-append}
use Rattle.timeout_mgr.specs.declared.view.WatchName.{WatchName}
use Rattle.timeout_mgr.specs.declared.view.TimeCall.{TimeCall}
use Rattle.timeout_mgr.specs.declared.view.TimeCall.TheVariants.{Add, Tickle, Sweep}
use Rattle.timeout_mgr.specs.declared.view.AddOutcome.TheVariants as Adds
use Rattle.dispatcher.specs.Entries.{Firing}
use Rattle.outside.specs.ListenCauses.{ListenerTold}
use Rattle.conn_loop.specs.declared.step.End.{End}
use Rattle.conn_loop.specs.declared.step.End.TheVariants.{NoMemory}
use Rattle.warp_tally.specs.declared.calls.TallyCall.TheVariants as Tallies
use Rattle.warp_tally.specs.declared.calls.Counted.{Counted}
use Rattle.warp_tally.specs.declared.calls.Counted.TheVariants as Counts
use Rattle.warp_books.specs.declared.finish.Finish.{Finish}
use Rattle.warp_books.specs.declared.finish.Finish.TheVariants.{Ended, TimedOut, TurnedAway}
use Rattle.warp_books.specs.declared.finish.Turned.TheVariants as Turns
use Rattle.warp_books.specs.Books.{FinishedTold, same_kind}
use Rattle.warp_jobs.specs.Held.{Held}
use Rattle.warp_jobs.specs.HeldListener.{HeldListener}
use Rattle.warp_jobs.specs.Sessions.{first_held}
use Rattle.warp_jobs.specs.Tags.{serve_tag, listen_tag}
use Rattle.warp_runner.specs.Acts.{Acts, nothing, called, counted, found_all_out, watched, then}
use Rattle.warp_runner.specs.Deeds.{AreNoOpenings, InTurn, IsAdmitting, IsBeginning, IsConnectionRun}
use Rattle.warp_runner.specs.Deeds.{IsEnding}
use Rattle.warp_runner.specs.Deeds.{IsEndingBare, IsEntering, IsFailing, IsGoingOn, IsHanding, IsLeaving}
use Rattle.warp_runner.specs.Deeds.{IsLetGo}
use Rattle.warp_runner.specs.Deeds.{IsListenerRun, IsListening, IsNoOpening, IsNote, IsOpenedAtLast}
use Rattle.warp_runner.specs.Deeds.{IsOpenedNever}
use Rattle.warp_runner.specs.Deeds.{IsOpeningSpent, IsParting, IsRegistering, IsStarting, IsStartingAt}
use Rattle.warp_runner.specs.Deeds.{IsSweeping}
use Rattle.warp_runner.specs.Deeds.{IsTakingLink, IsTimingOut, IsTriedUntilSpent, IsTriedUntilTaken}
use Rattle.warp_runner.specs.Deeds.{IsTurningAway, IsUnmade, end_of_shut, finished_held, handed_by, handing}
use Rattle.warp_runner.specs.Deeds.{mark_at}
use Rattle.warp_runner.specs.Deeds.{registering, shut_by, tried, unserved}
use Rattle.warp_runner.specs.Journal.{AreDeeds, Deed, IsDeed, IsRun, all_of}
use Rattle.whole_runs.proofs.Flowing.{total_append}

-- one for an end of this kind
abbrev pub is_end : Finish → Finish → ℕ
is_end k end = one_if (same_kind k end)

-- how many of these ended so
abbrev pub ends_in : Finish → List FinishedTold → ℕ
ends_in k hs = total (λ d. is_end k d.end) hs

-- calls on the timeouts and on stripes, weighed so that each end of this kind has one
pub record Covers (k : Finish) (tf : TimeCall → ℕ) (cf : Entry → ℕ) : Type 0 where
  pub ended : (end : End) → is_end k (Ended end) ≡ 0
  pub poller : is_end k (TurnedAway Turns.Poller) ≡ 0
  pub full : (o : Opening) → is_end k (TurnedAway Turns.Watches) ≤ tf (Add o Adds.Full)
  pub crowded : (h : Held) (d : Dir) (m : Option ℕ) → is_end k (TurnedAway Turns.Crowded)
      ≤ cf (Entries.Register h.opening d m (Kinds.Job (serve_tag h)) Registers.Crowded)
  pub shut : (h : Held) (d : Dir) (m : Option ℕ) (alive : Bool) → is_end k (end_of_shut alive)
      ≤ cf (Entries.Register h.opening d m (Kinds.Job (serve_tag h)) Registers.Shut)
      + tf (Tickle h.watch alive)
  pub gone : (w : WatchName) → is_end k TimedOut ≤ tf (Tickle w false)
  pub due : ShutKey → ℕ
  pub owes : (h : Held) (x : ShutKey) → x.kind ≡ Kinds.Job (serve_tag h) → is_end k TimedOut ≤ due x
  pub closed : (o : Opening) (s : CloseOutcome) → total due (shut_by s) ≤ cf (Entries.Close o s)

module _ (k : Finish) (tf : TimeCall → ℕ) (cf : Entry → ℕ) where
  -- of what these acts hand over, all that ended so but these many are paid for by their calls
  abbrev pub Pays : ℕ → Acts → Type 0
  Pays n a = ends_in k a.handed ≤ n + weigh tf a.timed + weigh cf a.calls

  pays_then : (n m : ℕ) (a b : Acts) → Pays n a → Pays m b → Pays (n + m) (then a b)
  pays_then n m a b p q =
      let h = total_append (λ (d : FinishedTold). is_end k d.end) a.handed b.handed in
      let t = weigh-append tf a.timed b.timed in
      let c = weigh-append cf a.calls b.calls in
      omega arith

  pays_as : (n : ℕ) (a b : Acts) → a ≡ b → Pays n b → Pays n a
  pays_as n a b e p = subst (Pays n) (sym e) p

  -- acts that hand nothing over
  pays_none : (n : ℕ) (a : Acts) → a.handed ≡ [] → Pays n a
  pays_none n a e = let h = ap (ends_in k) e in omega arith

  -- an act that hands nothing over, and then others
  pays_after : (n : ℕ) (a b : Acts) → a.handed ≡ [] → Pays n b → Pays n (then a b)
  pays_after n a b e p =
      let h = total_append (λ (d : FinishedTold). is_end k d.end) a.handed b.handed in
      let z = ap (ends_in k) e in
      let t = weigh-append tf a.timed b.timed in
      let c = weigh-append cf a.calls b.calls in
      omega arith

  -- ---- a connection ends

  hands_one : (c : Counted) (h : FinishedTold) → ends_in k (handed_by c h) ≤ is_end k h.end
  hands_one Counts.Yes h = omega arith
  hands_one Counts.No h = omega arith
  hands_one Counts.NoMemory h = omega arith

  handing_pays : (h : FinishedTold) (acts : Acts) (stopped : Option ℕ) → IsHanding h acts stopped
      → Pays (is_end k h.end) acts
  handing_pays h acts stopped is = ⊎_elim
      (λ p. pays_as (is_end k h.end) acts (handing h p.0) p.1 (let o = hands_one p.0.counted h in omega arith))
      (λ p. pays_as (is_end k h.end) acts nothing p.0 (pays_none (is_end k h.end) nothing refl)) is

  parting_pays : (w : WatchName) (h : FinishedTold) (acts : Acts) (stopped : Option ℕ)
      → IsParting w h acts stopped → Pays (is_end k h.end) acts
  parting_pays w h acts stopped is =
      pays_as (is_end k h.end) acts (then (watched is.0) is.1) is.4
      (pays_after (is_end k h.end) (watched is.0) is.1 refl
      (handing_pays h is.1 is.2 is.5))

  ending_pays : (w : WatchName) (h : FinishedTold) (acts : Acts) (stopped : Option ℕ)
      → IsEnding w h acts stopped → Pays (is_end k h.end) acts
  ending_pays w h acts stopped is = ⊎_elim
      (λ p. let e = called (Entries.Close h.opening p.0) in
      pays_as (is_end k h.end) acts (then e p.1) p.2
      (pays_after (is_end k h.end) e p.1 refl (parting_pays w h p.1 stopped p.3)))
      (λ p. pays_as (is_end k h.end) acts nothing p.0 (pays_none (is_end k h.end) nothing refl)) is

  bare_pays : (h : FinishedTold) (acts : Acts) (stopped : Option ℕ) → IsEndingBare h acts stopped
      → Pays (is_end k h.end) acts
  bare_pays h acts stopped is = ⊎_elim
      (λ p. let e = called (Entries.Close h.opening p.0) in
      pays_as (is_end k h.end) acts (then e p.1) p.2
      (pays_after (is_end k h.end) e p.1 refl (handing_pays h p.1 stopped p.3)))
      (λ p. pays_as (is_end k h.end) acts nothing p.0 (pays_none (is_end k h.end) nothing refl)) is

  -- what is left to be paid, paid by a call before it
  paid_before : (n : ℕ) (a b : Acts) → a.handed ≡ [] → n ≤ weigh tf a.timed + weigh cf a.calls → Pays n b
      → Pays 0 (then a b)
  paid_before n a b e le p =
      let h = total_append (λ (d : FinishedTold). is_end k d.end) a.handed b.handed in
      let z = ap (ends_in k) e in
      let t = weigh-append tf a.timed b.timed in
      let c = weigh-append cf a.calls b.calls in
      omega arith

  -- where there is nothing to be paid
  pays_less : (n : ℕ) (a : Acts) → n ≡ 0 → Pays n a → Pays 0 a
  pays_less n a e p = omega arith

  module _ (covers : Covers k tf cf) where
    -- ---- a run of a connection

    registering_pays : (h : Held) (d : Dir) (m : Option ℕ) (acts : Acts) (stopped : Option ℕ)
        → IsRegistering h d m acts stopped → Pays 0 acts
    registering_pays h d m acts stopped is = ⊎_elim
        (λ p. pays_as 0 acts (registering h.opening d m (serve_tag h) (Registers.Waits p.0 p.1)) p.2
        (pays_none 0 (registering h.opening d m (serve_tag h) (Registers.Waits p.0 p.1)) refl))
        (λ q. ⊎_elim
        (λ p. let r = registering h.opening d m (serve_tag h) Registers.Crowded in
        let c = covers.crowded h d m in
        pays_as 0 acts (then r p.0) p.1
        (paid_before (is_end k (TurnedAway Turns.Crowded)) r p.0 refl (omega arith)
        (ending_pays h.watch (finished_held h (TurnedAway Turns.Crowded)) p.0 stopped p.2)))
        (λ q. ⊎_elim
        (λ p. let r = registering h.opening d m (serve_tag h) Registers.Shut in
        let t = watched (Tickle h.watch p.0 ∷ []) in
        let c = covers.shut h d m p.0 in
        let ending = ending_pays h.watch (finished_held h (end_of_shut p.0)) p.1 stopped p.3 in
        pays_as 0 acts (then r (then t p.1)) p.2
        (shut_paid (is_end k (end_of_shut p.0)) r t p.1 refl refl (omega arith) ending))
        (λ p. ⊎_elim
        (λ e. pays_as 0 acts nothing e (pays_none 0 nothing refl))
        (λ e. pays_as 0 acts (registering h.opening d m (serve_tag h) Registers.Spent) e
        (pays_none 0 (registering h.opening d m (serve_tag h) Registers.Spent) refl)) p.0)
        q) q) is
      where
        shut_paid : (n : ℕ) (a b c : Acts) → a.handed ≡ [] → b.handed ≡ []
            → n ≤ (weigh tf a.timed + weigh cf a.calls) + (weigh tf b.timed + weigh cf b.calls) → Pays n c
            → Pays 0 (then a (then b c))
        shut_paid n a b c e f le p =
            let h = total_append (λ (d : FinishedTold). is_end k d.end) a.handed (then b c).handed in
            let i = total_append (λ (d : FinishedTold). is_end k d.end) b.handed c.handed in
            let y = ap (ends_in k) e in
            let z = ap (ends_in k) f in
            let t = weigh-append tf a.timed (then b c).timed in
            let u = weigh-append tf b.timed c.timed in
            let v = weigh-append cf a.calls (then b c).calls in
            let w = weigh-append cf b.calls c.calls in
            omega arith

    connection_pays : (h : Held) (marks : Marks) (acts : Acts) (stopped : Option ℕ)
        → IsConnectionRun h marks acts stopped → Pays 0 acts
    connection_pays h marks acts stopped is = ⊎_elim
        (λ p. let t = watched (Tickle h.watch false ∷ []) in
        let c = covers.gone h.watch in
        pays_as 0 acts (then t p.0) p.1
        (paid_before (is_end k TimedOut) t p.0 refl (omega arith)
        (ending_pays h.watch (finished_held h TimedOut) p.0 stopped p.2)))
        (λ q. ⊎_elim
        (λ p. let t = watched (Tickle h.watch true ∷ []) in
        pays_as 0 acts (then t p.2) p.5
        (pays_after 0 t p.2 refl
        (pays_less (is_end k (Ended p.1)) p.2 (covers.ended p.1)
        (ending_pays h.watch (finished_held p.0 (Ended p.1)) p.2 stopped p.6))))
        (λ q. ⊎_elim
        (λ p. let t = watched (Tickle h.watch true ∷ []) in
        pays_as 0 acts (then t p.2) p.5
        (pays_after 0 t p.2 refl
        (registering_pays p.0 p.1 (Some (mark_at p.1 marks)) p.2 stopped p.6)))
        (λ p. pays_as 0 acts (watched (Tickle h.watch true ∷ [])) p.0
        (pays_none 0 (watched (Tickle h.watch true ∷ [])) refl))
        q) q) is

    -- ---- a sweep

    let_go_pays : (x : ShutKey) (acts : Acts) (stopped : Option ℕ) → IsLetGo x acts stopped
        → Pays (covers.due x) acts
    let_go_pays x acts stopped is = ⊎_elim
        (λ p. let o = covers.owes p.0 x p.1.0 in
        let q = parting_pays p.0.watch (finished_held p.0 TimedOut) acts stopped p.2 in omega arith)
        (λ p. pays_as (covers.due x) acts nothing p.1 (pays_none (covers.due x) nothing refl)) is

    all_go_pay : (xs : List ShutKey) (acts : Acts) (stopped : Option ℕ) → InTurn IsLetGo xs acts stopped
        → Pays (total covers.due xs) acts
    all_go_pay [] acts stopped is = pays_as 0 acts nothing is.0 (pays_none 0 nothing refl)
    all_go_pay (x ∷ xs) acts stopped is = ⊎_elim
        (λ p. let q = let_go_pays x acts stopped p.2 in omega arith)
        (λ p. pays_as (covers.due x + total covers.due xs) acts (then p.0 p.1) p.3
        (pays_then (covers.due x) (total covers.due xs) p.0 p.1 (let_go_pays x p.0 None p.2)
        (all_go_pay xs p.1 stopped p.4))) is

    timing_pays : (o : Opening) (acts : Acts) (stopped : Option ℕ) → IsTimingOut o acts stopped → Pays 0 acts
    timing_pays o acts stopped is = ⊎_elim
        (λ p. let e = called (Entries.Close o p.0) in
        let c = covers.closed o p.0 in
        pays_as 0 acts (then e p.1) p.2
        (paid_before (total covers.due (shut_by p.0)) e p.1 refl (omega arith)
        (all_go_pay (shut_by p.0) p.1 stopped p.3)))
        (λ p. pays_as 0 acts nothing p.0 (pays_none 0 nothing refl)) is

    all_time_pay : (os : List Opening) (acts : Acts) (stopped : Option ℕ) → InTurn IsTimingOut os acts stopped
        → Pays 0 acts
    all_time_pay [] acts stopped is = pays_as 0 acts nothing is.0 (pays_none 0 nothing refl)
    all_time_pay (o ∷ os) acts stopped is = ⊎_elim
        (λ p. timing_pays o acts stopped p.2)
        (λ p. pays_as 0 acts (then p.0 p.1) p.3
        (pays_then 0 0 p.0 p.1 (timing_pays o p.0 None p.2) (all_time_pay os p.1 stopped p.4))) is

    sweeping_pays : (acts : Acts) (stopped : Option ℕ) → IsSweeping acts stopped → Pays 0 acts
    sweeping_pays acts stopped is = let t = watched (Sweep is.0 ∷ []) in
        pays_as 0 acts (then t is.1) is.2
        (pays_after 0 t is.1 refl (all_time_pay is.0 is.1 stopped is.3))

    -- ---- a link begins to be served

    unmade_pays : (end : Finish) → IsUnmade end → is_end k end ≡ 0
    unmade_pays end is = ⊎_elim (λ e. ap (is_end k) e ∙ covers.poller) (λ e. ap (is_end k) e ∙ covers.ended NoMemory) is

    entering_pays : (o : Opening) (acts : Acts) (stopped : Option ℕ) → IsEntering o acts stopped → Pays 0 acts
    entering_pays o acts stopped is = let link = is.0 in ⊎_elim
        (λ p. pays_less (is_end k p.0) acts (unmade_pays p.0 p.1) (bare_pays (unserved o link p.0) acts stopped p.2))
        (λ q. ⊎_elim
        (λ p. let t = watched (Add o Adds.Full ∷ []) in
        let c = covers.full o in
        pays_as 0 acts (then t p.0) p.1
        (paid_before (is_end k (TurnedAway Turns.Watches)) t p.0 refl (omega arith)
        (bare_pays (unserved o link (TurnedAway Turns.Watches)) p.0 stopped p.2)))
        (λ q. ⊎_elim
        (λ p. let t = watched (Add o (Adds.Added p.0) ∷ []) in
        pays_as 0 acts (then t p.1) p.2
        (pays_after 0 t p.1 refl
        (pays_less (is_end k (Ended NoMemory)) p.1 (covers.ended NoMemory)
        (ending_pays p.0 (unserved o link (Ended NoMemory)) p.1 stopped p.3))))
        (λ p. let t = watched (Add o (Adds.Added p.0) ∷ []) in
        pays_as 0 acts (then t p.1) p.2
        (pays_after 0 t p.1 refl
        (registering_pays (first_held o link p.0) Dirs.Read None p.1 stopped p.3)))
        q) q) is.1

    admitting_pays : (o : Opening) (acts : Acts) (stopped : Option ℕ) → IsAdmitting o acts stopped → Pays 0 acts
    admitting_pays o acts stopped is = ⊎_elim
        (λ p. let e = counted (record { call = Tallies.Accept o; reply = p.0 }) in
        pays_as 0 acts (then e p.1) p.3
        (pays_after 0 e p.1 refl (entering_pays o p.1 stopped p.4)))
        (λ q. ⊎_elim
        (λ p. let e = counted (record { call = Tallies.Accept o; reply = p.0 }) in
        pays_as 0 acts e p.2 (pays_none 0 e refl))
        (λ p. pays_as 0 acts nothing p.0 (pays_none 0 nothing refl)) q) is

    turning_pays : (acts : Acts) (stopped : Option ℕ) → IsTurningAway acts stopped → Pays 0 acts
    turning_pays acts stopped is = ⊎_elim
        (λ p. let e = counted (record { call = Tallies.TurnAway; reply = p.0 }) in
        pays_as 0 acts e p.1 (pays_none 0 e refl))
        (λ p. pays_as 0 acts nothing p.0 (pays_none 0 nothing refl)) is

    no_opening_pays : (acts : Acts) → IsNoOpening acts → Pays 0 acts
    no_opening_pays acts is = ⊎_elim
        (λ e. pays_as 0 acts found_all_out e (pays_none 0 found_all_out refl))
        (λ p. let e = called (Entries.Open p.0.fd (Opens.Taken p.0)) in
        pays_as 0 acts e p.1 (pays_none 0 e refl)) is

    spent_pays : (acts : Acts) → IsOpeningSpent acts → Pays 0 acts
    spent_pays acts is = ⊎_elim
        (λ e. pays_as 0 acts nothing e (pays_none 0 nothing refl))
        (λ p. let e = called (Entries.Open p.0 Opens.Spent) in pays_as 0 acts e p.1 (pays_none 0 e refl)) is

    beginning_pays : (acts : Acts) (stopped : Option ℕ) → IsBeginning acts stopped → Pays 0 acts
    beginning_pays acts stopped is = ⊎_elim
        (λ p. let e = called (Entries.Open p.0.fd (Opens.Opened p.0)) in
        pays_as 0 acts (then e p.1) p.2
        (pays_after 0 e p.1 refl (admitting_pays p.0 p.1 stopped p.3)))
        (λ q. ⊎_elim
        (λ p. pays_as 0 acts (then p.0 p.1) p.3
        (pays_then 0 0 p.0 p.1 (no_opening_pays p.0 p.2) (turning_pays p.1 stopped p.4)))
        (λ p. spent_pays acts p.0) q) is

    -- ---- the listener goes on

    until_taken_pays : (o : Opening) (d : Dir) (m : Option ℕ) (tag : List (List ℕ)) (acts : Acts)
        → IsTriedUntilTaken o d m tag acts → Pays 0 acts
    until_taken_pays o d m tag acts is = let p = is.2 in
        let t = tried o d m tag is.0 in
        let r = registering o d m tag (Registers.Waits p.0 p.1) in
        pays_as 0 acts (then t r) p.2 (pays_after 0 t r refl (pays_none 0 r refl))

    until_spent_pays : (o : Opening) (d : Dir) (m : Option ℕ) (tag : List (List ℕ)) (acts : Acts)
        → IsTriedUntilSpent o d m tag acts → Pays 0 acts
    until_spent_pays o d m tag acts is = let p = is.2 in
        let t = tried o d m tag is.0 in
        let r = registering o d m tag Registers.Spent in
        pays_as 0 acts (then t p.0) p.2
        (pays_after 0 t p.0 refl
        (⊎_elim (λ e. pays_as 0 p.0 nothing e (pays_none 0 nothing refl))
        (λ e. pays_as 0 p.0 r e (pays_none 0 r refl)) p.1))

    listening_pays : (l : HeldListener) (m : Option ℕ) (acts : Acts) (stopped : Option ℕ)
        → IsListening l m acts stopped → Pays 0 acts
    listening_pays l m acts stopped is =
        ⊎_elim (λ p. until_taken_pays l.opening Dirs.Read m (listen_tag l) acts p.0)
        (λ p. until_spent_pays l.opening Dirs.Read m (listen_tag l) acts p.0) is

    leaving_pays : (l : HeldListener) (acts : Acts) (stopped : Option ℕ) → IsLeaving l acts stopped → Pays 0 acts
    leaving_pays l acts stopped is = ⊎_elim
        (λ p. let e = called (Entries.Close l.opening p.0) in pays_as 0 acts e p.1 (pays_none 0 e refl))
        (λ p. pays_as 0 acts nothing p.0 (pays_none 0 nothing refl)) is

    going_on_pays : (limit : ℕ) (l : HeldListener) (acts : Acts) (stopped : Option ℕ)
        → IsGoingOn limit l acts stopped → Pays 0 acts
    going_on_pays limit l acts stopped is =
        ⊎_elim (λ p. leaving_pays l acts stopped p.1) (λ p. listening_pays l None acts stopped p.1) is

    taking_pays : (limit : ℕ) (l : HeldListener) (acts : Acts) (stopped : Option ℕ)
        → IsTakingLink limit l acts stopped → Pays 0 acts
    taking_pays limit l acts stopped is = let first = beginning_pays is.0 is.1 is.2 in ⊎_elim
        (λ p. pays_as 0 acts is.0 p.2 first)
        (λ p. pays_as 0 acts (then is.0 p.1) p.2
        (pays_then 0 0 is.0 p.1 first (going_on_pays limit l p.1 stopped p.3))) is.3

    failing_pays : (l : HeldListener) (acts : Acts) (stopped : Option ℕ) → IsFailing l acts stopped → Pays 0 acts
    failing_pays l acts stopped is = ⊎_elim (λ p. listening_pays l None acts stopped p)
        (λ p. pays_as 0 acts nothing p.1 (pays_none 0 nothing refl)) is

    listener_pays : (limit : ℕ) (l : HeldListener) (marks : Marks) (acts : Acts) (stopped : Option ℕ)
        → IsListenerRun limit l marks acts stopped → Pays 0 acts
    listener_pays limit l marks acts stopped is = ⊎_elim
        (λ p. taking_pays limit is.0 acts stopped p.1)
        (λ q. ⊎_elim (λ p. listening_pays is.0 p.1 acts stopped p.3) (λ p. failing_pays is.0 acts stopped p.1) q)
        is.2

    -- ---- the beginning, and a word with the tally

    no_openings_pay : (tries : List Acts) (acts : Acts) → AreNoOpenings tries acts → Pays 0 acts
    no_openings_pay [] acts is = pays_as 0 acts nothing is (pays_none 0 nothing refl)
    no_openings_pay (x ∷ xs) acts is = pays_as 0 acts (then is.0 x) is.3
        (pays_then 0 0 is.0 x (no_openings_pay xs is.0 is.1) (no_opening_pays x is.2))

    starting_at_pays : (o : Opening) (listener : ListenerTold) (acts : Acts) (stopped : Option ℕ)
        → IsStartingAt o listener acts stopped → Pays 0 acts
    starting_at_pays o listener acts stopped is = ⊎_elim
        (λ p. listening_pays (record { opening = o; listener = listener; accepted = 0 }) None acts stopped p)
        (λ p. pays_as 0 acts nothing p.0 (pays_none 0 nothing refl)) is

    starting_pays : (listener : ListenerTold) (acts : Acts) (stopped : Option ℕ)
        → IsStarting listener acts stopped → Pays 0 acts
    starting_pays listener acts stopped is = ⊎_elim
        (λ p. pays_as 0 acts (then p.1 p.2) p.4
        (pays_then 0 0 p.1 p.2 (at_last p.0 p.1 p.3) (starting_at_pays p.0 listener p.2 stopped p.5)))
        (λ p. never acts p.0) is
      where
        at_last : (o : Opening) (acts : Acts) → IsOpenedAtLast o acts → Pays 0 acts
        at_last o acts is = let e = called (Entries.Open o.fd (Opens.Opened o)) in
            pays_as 0 acts (then is.1 e) is.3
            (pays_then 0 0 is.1 e (no_openings_pay is.0 is.1 is.2) (pays_none 0 e refl))

        never : (acts : Acts) → IsOpenedNever acts → Pays 0 acts
        never acts is = pays_as 0 acts (then is.1 is.2) is.5
            (pays_then 0 0 is.1 is.2 (no_openings_pay is.0 is.1 is.3) (spent_pays is.2 is.4))

    note_pays : (acts : Acts) → IsNote acts → Pays 0 acts
    note_pays acts is = ⊎_elim
        (λ e. pays_as 0 acts nothing e (pays_none 0 nothing refl))
        (λ p. let e = counted (record { call = p.1; reply = p.0 }) in pays_as 0 acts e p.3 (pays_none 0 e refl)) is

    -- ---- the journal

    run_pays : (limit : ℕ) (f : Firing) (acts : Acts) (stopped : Option ℕ) → IsRun limit f acts stopped
        → Pays 0 acts
    run_pays limit f acts stopped is = ⊎_elim
        (λ p. connection_pays p.0 f.1.marks acts stopped p.2)
        (λ p. listener_pays limit p.0 f.1.marks acts stopped p.2) is

    deed_pays : (limit : ℕ) (d : Deed) → IsDeed limit d → Pays 0 d.acts
    deed_pays limit d is = ⊎_elim
        (λ p. run_pays limit p.0 d.acts d.stopped p.2)
        (λ q. ⊎_elim
        (λ p. pays_as 0 d.acts nothing p.2 (pays_none 0 nothing refl))
        (λ q. ⊎_elim
        (λ p. sweeping_pays d.acts d.stopped p.1)
        (λ q. ⊎_elim
        (λ p. note_pays d.acts p.1)
        (λ p. starting_pays p.0 d.acts d.stopped p.2)
        q) q) q) is

    -- of what a journal handed over, each end of this kind has a call among the journal's
    pub journal_pays : (limit : ℕ) (ds : List Deed) → AreDeeds limit ds
        → ends_in k (all_of (λ d. d.acts.handed) ds)
        ≤ weigh tf (all_of (λ d. d.acts.timed) ds) + weigh cf (all_of (λ d. d.acts.calls) ds)
    journal_pays limit [] are = omega arith
    journal_pays limit (d ∷ ds) are =
        let p = deed_pays limit d are.0 in
        let r = journal_pays limit ds are.1 in
        let h = total_append (λ (x : FinishedTold). is_end k x.end) d.acts.handed (all_of (λ y. y.acts.handed) ds) in
        let t = weigh-append tf d.acts.timed (all_of (λ y. y.acts.timed) ds) in
        let c = weigh-append cf d.acts.calls (all_of (λ y. y.acts.calls) ds) in
        omega arith
