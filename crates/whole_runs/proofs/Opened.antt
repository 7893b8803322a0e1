-- Each opening that was made was counted, or was made by the beginning or by a deed that
-- stopped its dispatcher.
use Rattle.std.proofs.Common.{◌≡◌, ◌⊎◌, ℕ, zero, suc, ◌+◌, ◌≤◌, List, [], ◌∷◌, ◌++◌, map, ⊎_elim, inl, inr}
use Rattle.std.proofs.Common.{refl, sym, ap, ◌∙◌, subst, arith}
use Rattle.std.specs.Prelude.{Option, Some, None}
use Rattle.std.proofs.lemmas.Option.{none-some}
use Rattle.reg_keys.specs.declared.opening.Opening.{Opening}
use Rattle.reg_keys.specs.declared.registration.Dir.{Dir}
use Rattle.reg_keys.specs.declared.registration.Dir.TheVariants as Dirs
use Rattle.reg_keys.specs.declared.registration.Marks.{Marks}
use Rattle.reg_keys.specs.declared.entry.Entry.TheVariants as Entries
use Rattle.reg_keys.specs.declared.entry.LoadKind.TheVariants as Kinds
use Rattle.reg_keys.specs.declared.entry.OpenOutcome.TheVariants as Opens
use Rattle.reg_keys.specs.declared.entry.RegisterOutcome.{RegisterOutcome}
use Rattle.reg_keys.specs.declared.entry.RegisterOutcome.TheVariants as Registers
use Rattle.reg_keys.specs.declared.entry.ShutKey.{ShutKey}
use Rattle.reg_keys.specs.Accounts.{opens}
use Rattle.reg_keys.specs.Tests.{one_if, same}
use Rattle.turn_cell.specs.Weights.{weigh}
use Rattle.turn_cell.specs.ListLaws.{weigh-append}
use Rattle.timeout_mgr.specs.declared.view.WatchName.{WatchName}
use Rattle.conn_loop.specs.declared.step.End.TheVariants.{NoMemory}
use Rattle.warp_tally.specs.declared.calls.TallyCall.TheVariants as Tallies
use Rattle.warp_tally.specs.declared.calls.TallyEntry.{TallyEntry}
use Rattle.warp_tally.specs.Accounts.{accepted_by, accepts, times}
use Rattle.warp_books.specs.declared.finish.Finish.TheVariants.{Ended, TimedOut, TurnedAway}
use Rattle.warp_books.specs.declared.finish.Turned.TheVariants as Turns
use Rattle.warp_books.specs.Books.{FinishedTold}
use Rattle.warp_jobs.specs.Held.{Held}
use Rattle.warp_jobs.specs.HeldListener.{HeldListener}
use Rattle.warp_jobs.specs.Sessions.{first_held}
use Rattle.warp_jobs.specs.Tags.{listen_tag}
use Rattle.warp_runner.specs.Acts.{Acts, called, then}
use Rattle.warp_runner.specs.Deeds.{InTurn, IsAdmitting, IsBeginning, IsConnectionRun, IsEnding, IsEndingBare}
use Rattle.warp_runner.specs.Deeds.{IsEntering, IsFailing, IsGoingOn, IsHanding, IsLeaving, IsLetGo}
use Rattle.warp_runner.specs.Deeds.{IsListenerRun, IsListening, IsNoOpening, IsNote}
use Rattle.warp_runner.specs.Deeds.{IsParting, IsRegistering, IsSweeping, IsTakingLink}
use Rattle.warp_runner.specs.Deeds.{IsTimingOut, IsTriedUntilSpent, IsTriedUntilTaken, IsTurningAway}
use Rattle.warp_runner.specs.Deeds.{end_of_shut, finished_held, mark_at, no_memory, registering, shut_by}
use Rattle.warp_runner.specs.Deeds.{spent, tried, unserved}
use Rattle.warp_runner.specs.Journal.{AreDeeds, Deed, HasOne, IsDeed, all_of}
use Rattle.whole_runs.specs.Accounts.{OpensUncounted}
use Rattle.whole_runs.proofs.Openings.{same_turned}

module _ (o : Opening) where
  -- nothing of these acts made the opening
  abbrev Quiet : Acts → Type 0
  Quiet acts = weigh (opens o) acts.calls ≡ 0

  quiet_then : (a b : Acts) → Quiet a → Quiet b → Quiet (then a b)
  quiet_then a b p q = let w = weigh-append (opens o) a.calls b.calls in omega arith

  quiet_by : (acts b : Acts) → acts ≡ b → Quiet b → Quiet acts
  quiet_by acts b e q = subst Quiet (sym e) q

  -- ---- ends and registrations

  quiet_handing : (h : FinishedTold) (acts : Acts) (stopped : Option ℕ) → IsHanding h acts stopped
      → Quiet acts
  quiet_handing h acts stopped is = ⊎_elim (λ p. quiet_by acts _ p.1 refl) (λ p. quiet_by acts _ p.0 refl) is

  quiet_parting : (w : WatchName) (h : FinishedTold) (acts : Acts) (stopped : Option ℕ)
      → IsParting w h acts stopped → Quiet acts
  quiet_parting w h acts stopped is = quiet_by acts _ is.4 (quiet_handing h is.1 is.2 is.5)

  quiet_ending : (w : WatchName) (h : FinishedTold) (acts : Acts) (stopped : Option ℕ)
      → IsEnding w h acts stopped → Quiet acts
  quiet_ending w h acts stopped is = ⊎_elim
      (λ p. quiet_by acts (then (called (Entries.Close h.opening p.0)) p.1) p.2
      (quiet_then (called (Entries.Close h.opening p.0)) p.1 refl (quiet_parting w h p.1 stopped p.3)))
      (λ p. quiet_by acts _ p.0 refl) is

  quiet_ending_bare : (h : FinishedTold) (acts : Acts) (stopped : Option ℕ)
      → IsEndingBare h acts stopped → Quiet acts
  quiet_ending_bare h acts stopped is = ⊎_elim
      (λ p. quiet_by acts (then (called (Entries.Close h.opening p.0)) p.1) p.2
      (quiet_then (called (Entries.Close h.opening p.0)) p.1 refl (quiet_handing h p.1 stopped p.3)))
      (λ p. quiet_by acts _ p.0 refl) is

  quiet_registering : (h : Held) (d : Dir) (m : Option ℕ) (acts : Acts) (stopped : Option ℕ)
      → IsRegistering h d m acts stopped → Quiet acts
  quiet_registering h d m acts stopped is = ⊎_elim
      (λ p. quiet_by acts _ p.2 refl)
      (λ q. ⊎_elim
      (λ p. quiet_by acts _ p.1 (let r =
      quiet_ending h.watch (finished_held h (TurnedAway Turns.Crowded)) p.0 stopped p.2 in omega arith))
      (λ q. ⊎_elim
      (λ p. quiet_by acts _ p.2 (let r =
      quiet_ending h.watch (finished_held h (end_of_shut p.0)) p.1 stopped p.3 in omega arith))
      (λ p. ⊎_elim (λ e. quiet_by acts _ e refl) (λ e. quiet_by acts _ e refl) p.0) q) q) is

  -- ---- a run of a connection, and a sweep

  quiet_connection : (h : Held) (marks : Marks) (acts : Acts) (stopped : Option ℕ)
      → IsConnectionRun h marks acts stopped → Quiet acts
  quiet_connection h marks acts stopped is = ⊎_elim
      (λ p. quiet_by acts _ p.1 (quiet_ending h.watch (finished_held h TimedOut) p.0 stopped p.2))
      (λ q. ⊎_elim
      (λ p. quiet_by acts _ p.5 (quiet_ending h.watch (finished_held p.0 (Ended p.1)) p.2 stopped p.6))
      (λ q. ⊎_elim
      (λ p. quiet_by acts _ p.5 (quiet_registering p.0 p.1 (Some (mark_at p.1 marks)) p.2 stopped p.6))
      (λ p. quiet_by acts _ p.0 refl) q) q) is

  quiet_let_go : (x : ShutKey) (acts : Acts) (stopped : Option ℕ) → IsLetGo x acts stopped → Quiet acts
  quiet_let_go x acts stopped is =
      ⊎_elim (λ p. quiet_parting p.0.watch (finished_held p.0 TimedOut) acts stopped p.2)
      (λ p. quiet_by acts _ p.1 refl) is

  -- acts that are done in turn
  quiet_turns : {A : Type 0} (Does : A → Acts → Option ℕ → Type 0)
      → ((x : A) (acts : Acts) (stopped : Option ℕ) → Does x acts stopped → Quiet acts)
      → (xs : List A) (acts : Acts) (stopped : Option ℕ) → InTurn Does xs acts stopped → Quiet acts
  quiet_turns Does quiet [] acts stopped is = quiet_by acts _ is.0 refl
  quiet_turns Does quiet (x ∷ xs) acts stopped is = ⊎_elim
      (λ p. quiet x acts stopped p.2)
      (λ p. quiet_by acts (then p.0 p.1) p.3
      (quiet_then p.0 p.1 (quiet x p.0 None p.2) (quiet_turns Does quiet xs p.1 stopped p.4)))
      is

  quiet_timing : (p : Opening) (acts : Acts) (stopped : Option ℕ) → IsTimingOut p acts stopped → Quiet acts
  quiet_timing p acts stopped is = ⊎_elim
      (λ q.
      quiet_by acts (then (called (Entries.Close p q.0)) q.1) q.2 (quiet_then (called (Entries.Close p q.0))
      q.1 refl (quiet_turns IsLetGo quiet_let_go (shut_by q.0) q.1 stopped q.3)))
      (λ q. quiet_by acts _ q.0 refl) is

  quiet_sweeping : (acts : Acts) (stopped : Option ℕ) → IsSweeping acts stopped → Quiet acts
  quiet_sweeping acts stopped is =
      quiet_by acts _ is.2 (quiet_turns IsTimingOut quiet_timing is.0 is.1 stopped is.3)

  quiet_note : (acts : Acts) → IsNote acts → Quiet acts
  quiet_note acts is = ⊎_elim (λ e. quiet_by acts _ e refl) (λ p. quiet_by acts _ p.3 refl) is

  -- ---- the listener goes on

  quiet_tries : (p : Opening) (d : Dir) (m : Option ℕ) (tag : List (List ℕ)) (outs : List RegisterOutcome)
      → weigh (opens o) (map (λ out. Entries.Register p d m (Kinds.Job tag) out) outs) ≡ 0
  quiet_tries p d m tag [] = refl
  quiet_tries p d m tag (out ∷ outs) = let r = quiet_tries p d m tag outs in omega arith

  quiet_until_taken : (p : Opening) (d : Dir) (m : Option ℕ) (tag : List (List ℕ)) (acts : Acts)
      → IsTriedUntilTaken p d m tag acts → Quiet acts
  quiet_until_taken p d m tag acts is =
      quiet_by acts _ is.2.2
      (quiet_then (tried p d m tag is.0) (registering p d m tag (Registers.Waits is.2.0 is.2.1))
      (quiet_tries p d m tag is.0) refl)

  quiet_until_spent : (p : Opening) (d : Dir) (m : Option ℕ) (tag : List (List ℕ)) (acts : Acts)
      → IsTriedUntilSpent p d m tag acts → Quiet acts
  quiet_until_spent p d m tag acts is =
      quiet_by acts _ is.2.2 (quiet_then (tried p d m tag is.0) is.2.0 (quiet_tries p d m tag is.0)
      (⊎_elim (λ e. quiet_by is.2.0 _ e refl) (λ e. quiet_by is.2.0 _ e refl) is.2.1))

  quiet_listening : (l : HeldListener) (m : Option ℕ) (acts : Acts) (stopped : Option ℕ)
      → IsListening l m acts stopped → Quiet acts
  quiet_listening l m acts stopped is =
      ⊎_elim (λ p. quiet_until_taken l.opening Dirs.Read m (listen_tag l) acts p.0)
      (λ p. quiet_until_spent l.opening Dirs.Read m (listen_tag l) acts p.0) is

  quiet_leaving : (l : HeldListener) (acts : Acts) (stopped : Option ℕ) → IsLeaving l acts stopped
      → Quiet acts
  quiet_leaving l acts stopped is = ⊎_elim (λ p. quiet_by acts _ p.1 refl) (λ p. quiet_by acts _ p.0 refl) is

  quiet_going_on : (limit : ℕ) (l : HeldListener) (acts : Acts) (stopped : Option ℕ)
      → IsGoingOn limit l acts stopped → Quiet acts
  quiet_going_on limit l acts stopped is =
      ⊎_elim (λ p. quiet_leaving l acts stopped p.1) (λ p. quiet_listening l None acts stopped p.1) is

  quiet_failing : (l : HeldListener) (acts : Acts) (stopped : Option ℕ) → IsFailing l acts stopped
      → Quiet acts
  quiet_failing l acts stopped is =
      ⊎_elim (λ p. quiet_listening l None acts stopped p) (λ p. quiet_by acts _ p.1 refl) is

  -- ---- a link begins to be served

  quiet_entering : (p : Opening) (acts : Acts) (stopped : Option ℕ) → IsEntering p acts stopped → Quiet acts
  quiet_entering p acts stopped is = let link = is.0 in ⊎_elim
      (λ q. quiet_ending_bare (unserved p link q.0) acts stopped q.2)
      (λ r. ⊎_elim
      (λ q.
      quiet_by acts _ q.1 (quiet_ending_bare (unserved p link (TurnedAway Turns.Watches)) q.0 stopped q.2))
      (λ r. ⊎_elim
      (λ q. quiet_by acts _ q.2 (quiet_ending q.0 (unserved p link (Ended NoMemory)) q.1 stopped q.3))
      (λ q. quiet_by acts _ q.2 (quiet_registering (first_held p link q.0) Dirs.Read None q.1 stopped q.3)) r)
      r) is.1

  -- each opening that was made was counted, or a code stops the dispatcher
  abbrev IsCountedBy : Acts → Option ℕ → Type 0
  IsCountedBy acts stopped =
      (weigh (opens o) acts.calls ≤ weigh (accepts o) acts.tallied) ⊎ ((code : ℕ) × (stopped ≡ Some code))

  counts_quiet : (acts : Acts) (stopped : Option ℕ) → Quiet acts → IsCountedBy acts stopped
  counts_quiet acts stopped q = inl (omega arith)

  counts_admitting : (p : Opening) (rest : Acts) (stopped : Option ℕ) → IsAdmitting p rest stopped
      → IsCountedBy (then (called (Entries.Open p.fd (Opens.Opened p))) rest) stopped
  counts_admitting p rest stopped is = ⊎_elim
      (λ q.
      let e : TallyEntry = record { call = Tallies.Accept p; reply = q.0 } in
      let a : accepts o e ≡ one_if (same o p) + 0 =
      ap (λ k. times o (accepted_by (Tallies.Accept p) k)) q.2 in
      let b = ap one_if (same_turned o p) in
      let c : weigh (opens o) rest.calls ≡ weigh (opens o) q.1.calls =
      ap (λ (x : Acts). weigh (opens o) x.calls) q.3 in
      let d : weigh (accepts o) rest.tallied ≡ accepts o e + weigh (accepts o) q.1.tallied =
      ap (λ (x : Acts). weigh (accepts o) x.tallied) q.3 in
      let f = quiet_entering p q.1 stopped q.4 in inl (omega arith))
      (λ r. ⊎_elim (λ q. inr (no_memory, q.3)) (λ q. inr (spent, q.1)) r) is

  quiet_no_opening : (acts : Acts) → IsNoOpening acts → Quiet acts
  quiet_no_opening acts is = ⊎_elim (λ e. quiet_by acts _ e refl) (λ p. quiet_by acts _ p.1 refl) is

  quiet_turning : (acts : Acts) (stopped : Option ℕ) → IsTurningAway acts stopped → Quiet acts
  quiet_turning acts stopped is = ⊎_elim (λ p. quiet_by acts _ p.1 refl) (λ p. quiet_by acts _ p.0 refl) is

  counts_beginning : (acts : Acts) (stopped : Option ℕ) → IsBeginning acts stopped → IsCountedBy acts stopped
  counts_beginning acts stopped is = ⊎_elim
      (λ p. subst (λ (a : Acts). IsCountedBy a stopped) (sym p.2) (counts_admitting p.0 p.1 stopped p.3))
      (λ r. ⊎_elim
      (λ p. counts_quiet acts stopped (quiet_by acts (then p.0 p.1) p.3
      (quiet_then p.0 p.1 (quiet_no_opening p.0 p.2) (quiet_turning p.1 stopped p.4))))
      (λ p. inr (spent, p.1)) r) is

  counts_taking : (limit : ℕ) (l : HeldListener) (acts : Acts) (stopped : Option ℕ)
      → IsTakingLink limit l acts stopped → IsCountedBy acts stopped
  counts_taking limit l acts stopped is = let first = counts_beginning is.0 is.1 is.2 in ⊎_elim
      (λ p. inr (p.0, p.3 ∙ p.1))
      (λ p. ⊎_elim
      (λ le.
      let q = quiet_going_on limit l p.1 stopped p.3 in
      let c : weigh (opens o) acts.calls ≡ weigh (opens o) (is.0.calls ++ p.1.calls) =
      ap (λ (x : Acts). weigh (opens o) x.calls) p.2 in
      let d : weigh (accepts o) acts.tallied ≡ weigh (accepts o) (is.0.tallied ++ p.1.tallied) =
      ap (λ (x : Acts). weigh (accepts o) x.tallied) p.2 in
      let u = weigh-append (opens o) is.0.calls p.1.calls in
      let v = weigh-append (accepts o) is.0.tallied p.1.tallied in inl (omega arith))
      (λ s. absurd (none-some s.0 (sym p.0 ∙ s.1))) first) is.3

  counts_listener : (limit : ℕ) (l : HeldListener) (marks : Marks) (acts : Acts) (stopped : Option ℕ)
      → IsListenerRun limit l marks acts stopped → IsCountedBy acts stopped
  counts_listener limit l marks acts stopped is = ⊎_elim
      (λ p. counts_taking limit is.0 acts stopped p.1)
      (λ q. ⊎_elim (λ p. counts_quiet acts stopped (quiet_listening is.0 p.1 acts stopped p.3))
      (λ p. counts_quiet acts stopped (quiet_failing is.0 acts stopped p.1)) q)
      is.2

  -- ---- deeds

  abbrev CountsOr : Deed → Type 0
  CountsOr d = (weigh (opens o) d.acts.calls ≤ weigh (accepts o) d.acts.tallied) ⊎ OpensUncounted o d

  -- a deed that made none counted each
  none_or : (n m : ℕ) (X : Type 0) → (1 ≤ n → X) → (n ≤ m) ⊎ X
  none_or zero m X some = inl (omega arith)
  none_or (suc n) m X some = inr (some (omega arith))

  stopped_or : (d : Deed) → IsCountedBy d.acts d.stopped → CountsOr d
  stopped_or d counts = ⊎_elim (λ le. inl le)
      (λ p. none_or (weigh (opens o) d.acts.calls) (weigh (accepts o) d.acts.tallied)
      (OpensUncounted o d) (λ some. (some, inr p)))
      counts

  deed_counts : (limit : ℕ) (d : Deed) → IsDeed limit d → CountsOr d
  deed_counts limit d is = ⊎_elim
      (λ p. stopped_or d (⊎_elim
      (λ q. counts_quiet d.acts d.stopped (quiet_connection q.0 p.0.1.marks d.acts d.stopped q.2))
      (λ q. counts_listener limit q.0 p.0.1.marks d.acts d.stopped q.2) p.2))
      (λ r. ⊎_elim
      (λ p. stopped_or d (counts_quiet d.acts d.stopped (quiet_by d.acts _ p.2 refl)))
      (λ r. ⊎_elim
      (λ p. stopped_or d (counts_quiet d.acts d.stopped (quiet_sweeping d.acts d.stopped p.1)))
      (λ r. ⊎_elim
      (λ p. stopped_or d (counts_quiet d.acts d.stopped (quiet_note d.acts p.1)))
      (λ p. none_or (weigh (opens o) d.acts.calls) (weigh (accepts o) d.acts.tallied)
      (OpensUncounted o d) (λ some. (some, inl p)))
      r) r) r) is

  pub journal_counts : (limit : ℕ) (ds : List Deed) → AreDeeds limit ds
      → (weigh (opens o) (all_of (λ d. d.acts.calls) ds)
      ≤ weigh (accepts o) (all_of (λ d. d.acts.tallied) ds))
      ⊎ HasOne (OpensUncounted o) ds
  journal_counts limit [] are = inl (omega arith)
  journal_counts limit (d ∷ ds) are = ⊎_elim
      (λ le. ⊎_elim
      (λ more.
      let u = weigh-append (opens o) d.acts.calls (all_of (λ d. d.acts.calls) ds) in
      let v = weigh-append (accepts o) d.acts.tallied (all_of (λ d. d.acts.tallied) ds) in inl (omega arith))
      (λ has. inr (inr has)) (journal_counts limit ds are.1))
      (λ apart. inr (inl apart)) (deed_counts limit d are.0)
