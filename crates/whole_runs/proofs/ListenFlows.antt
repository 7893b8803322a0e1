-- What a run of the listener, and the beginning, takes and gives.
use Rattle.std.proofs.Common.{◌≡◌, ◌⊎◌, ℕ, List, [], ◌∷◌, ⊎_elim}
use Rattle.std.proofs.Common.{inr, refl, sym, subst}
use Rattle.std.specs.Prelude.{Option, None}
use Rattle.reg_keys.specs.declared.opening.Opening.{Opening}
use Rattle.reg_keys.specs.declared.registration.Dir.{Dir}
use Rattle.reg_keys.specs.declared.registration.Dir.TheVariants as Dirs
use Rattle.reg_keys.specs.declared.registration.Marks.{Marks}
use Rattle.reg_keys.specs.declared.entry.Entry.TheVariants as Entries
use Rattle.reg_keys.specs.declared.entry.OpenOutcome.TheVariants as Opens
use Rattle.reg_keys.specs.declared.entry.RegisterOutcome.TheVariants as Registers
use Rattle.timeout_mgr.specs.declared.view.TimeCall.TheVariants.{Add}
use Rattle.timeout_mgr.specs.declared.view.AddOutcome.TheVariants as Adds
use Rattle.conn_loop.specs.declared.step.End.TheVariants.{NoMemory}
use Rattle.outside.specs.ListenCauses.{ListenerTold}
use Rattle.warp_tally.specs.declared.calls.TallyCall.TheVariants as Tallies
use Rattle.warp_tally.specs.declared.calls.TallyReply.{TallyReply}
use Rattle.warp_tally.specs.declared.calls.TallyEntry.{TallyEntry}
use Rattle.warp_books.specs.declared.finish.Finish.{Finish}
use Rattle.warp_books.specs.declared.finish.Finish.TheVariants.{Ended, TurnedAway}
use Rattle.warp_books.specs.declared.finish.Turned.TheVariants as Turns
use Rattle.warp_jobs.specs.HeldListener.{HeldListener}
use Rattle.warp_jobs.specs.Sessions.{first_held}
use Rattle.warp_jobs.specs.Tags.{listen_tag}
use Rattle.warp_runner.specs.Acts.{Acts, called, counted, watched, then}
use Rattle.warp_runner.specs.Deeds.{AreNoOpenings, IsAdmitting, IsBeginning, IsEntering, IsFailing, IsGoingOn}
use Rattle.warp_runner.specs.Deeds.{IsLeaving, IsListenerRun, IsListening, IsNoOpening, IsNote}
use Rattle.warp_runner.specs.Deeds.{IsOpenedAtLast, IsOpenedNever, IsOpeningSpent, IsStarting, IsStartingAt}
use Rattle.warp_runner.specs.Deeds.{IsTakingLink, IsTriedUntilSpent, IsTriedUntilTaken, IsTurningAway}
use Rattle.warp_runner.specs.Deeds.{IsUnmade, registering, tried, unserved}
use Rattle.whole_runs.specs.Registrations.{MayLackOne}
use Rattle.whole_runs.proofs.Flows.{Flows}
use Rattle.whole_runs.proofs.Flowing.{flows_then}
use Rattle.whole_runs.proofs.Leaves.{accept, accept_none, by_acts, call_quiet, close_quiet, find_all_out}
use Rattle.whole_runs.proofs.Leaves.{find_taken, idle, listen, look, none, one_job, one_link, one_opening}
use Rattle.whole_runs.proofs.Leaves.{open_one, stop, try_listen, turn_away, wasted, watch}
use Rattle.whole_runs.proofs.RunFlows.{ending_bare_flows, ending_flows, registering_flows}

-- ---- a link begins to be served

unmade : (end : Finish) → IsUnmade end → MayLackOne end
unmade end is = ⊎_elim (λ e. subst MayLackOne (sym e) tt) (λ e. subst MayLackOne (sym e) tt) is

entering_flows : (o : Opening) (acts : Acts) (stopped : Option ℕ) → IsEntering o acts stopped
    → Flows (one_job o 0) none acts
entering_flows o acts stopped is =
    let x = one_job o 0 in
    let link = is.0 in ⊎_elim
    (λ p. ending_bare_flows (unserved o link p.0) 0 acts stopped (inr (unmade p.0 p.1, refl)) p.2)
    (λ q. ⊎_elim
    (λ p. by_acts x none acts (then (watched (Add o Adds.Full ∷ [])) p.0) p.1
    (flows_then x x none (watched (Add o Adds.Full ∷ [])) p.0 (watch x (Add o Adds.Full ∷ []))
    (ending_bare_flows (unserved o link (TurnedAway Turns.Watches)) 0 p.0 stopped (inr (tt, refl)) p.2)))
    (λ q. ⊎_elim
    (λ p. by_acts x none acts (then (watched (Add o (Adds.Added p.0) ∷ [])) p.1) p.2
    (flows_then x x none (watched (Add o (Adds.Added p.0) ∷ [])) p.1 (watch x (Add o (Adds.Added p.0) ∷ []))
    (ending_flows p.0 (unserved o link (Ended NoMemory)) 0 p.1 stopped (inr (tt, refl)) p.3)))
    (λ p. by_acts x none acts (then (watched (Add o (Adds.Added p.0) ∷ [])) p.1) p.2
    (flows_then x x none (watched (Add o (Adds.Added p.0) ∷ [])) p.1 (watch x (Add o (Adds.Added p.0) ∷ []))
    (registering_flows (first_held o link p.0) Dirs.Read None p.1 stopped refl p.3)))
    q) q) is.1

admitting_flows : (o : Opening) (acts : Acts) (stopped : Option ℕ) → IsAdmitting o acts stopped
    → Flows (one_opening o) none acts
admitting_flows o acts stopped is = let x = one_opening o in ⊎_elim
    (λ p.
    let e : TallyEntry = record { call = Tallies.Accept o; reply = p.0 } in
    by_acts x none acts (then (counted e) p.1) p.3
    (flows_then x (one_job o 0) none (counted e) p.1 (accept o p.0 p.2) (entering_flows o p.1 stopped p.4)))
    (λ q. ⊎_elim
    (λ p. by_acts x none acts _ p.2 (wasted x x _ (accept_none x o p.0 p.1)))
    (λ p. by_acts x none acts _ p.0 (wasted x x _ (idle x))) q) is

turning_flows : (acts : Acts) (stopped : Option ℕ) → IsTurningAway acts stopped → Flows one_link none acts
turning_flows acts stopped is = ⊎_elim
    (λ p. by_acts one_link none acts _ p.1 (turn_away p.0))
    (λ p. by_acts one_link none acts _ p.0 (wasted one_link one_link _ (idle one_link))) is

no_opening_flows : (acts : Acts) → IsNoOpening acts → Flows none one_link acts
no_opening_flows acts is = ⊎_elim
    (λ e. by_acts none one_link acts _ e find_all_out)
    (λ p. by_acts none one_link acts _ p.1 (find_taken p.0)) is

spent_flows : (acts : Acts) → IsOpeningSpent acts → Flows none none acts
spent_flows acts is = ⊎_elim
    (λ e. by_acts none none acts _ e (idle none))
    (λ p. by_acts none none acts _ p.1
    (call_quiet none (Entries.Open p.0 Opens.Spent) (λ these c. refl) (λ these. refl)))
    is

beginning_flows : (acts : Acts) (stopped : Option ℕ) → IsBeginning acts stopped → Flows none none acts
beginning_flows acts stopped is = ⊎_elim
    (λ p. let e = Entries.Open p.0.fd (Opens.Opened p.0) in by_acts none none acts (then (called e) p.1) p.2
    (flows_then none (one_opening p.0) none (called e) p.1 (open_one p.0)
    (admitting_flows p.0 p.1 stopped p.3)))
    (λ q. ⊎_elim
    (λ p. by_acts none none acts (then p.0 p.1) p.3
    (flows_then none one_link none p.0 p.1 (no_opening_flows p.0 p.2) (turning_flows p.1 stopped p.4)))
    (λ p. spent_flows acts p.0) q) is

-- ---- the listener goes on

until_taken_flows : (o : Opening) (d : Dir) (m : Option ℕ) (l : HeldListener) (acts : Acts)
    → IsTriedUntilTaken o d m (listen_tag l) acts → Flows none none acts
until_taken_flows o d m l acts is =
    let p = is.2 in
    by_acts none none acts
    (then (tried o d m (listen_tag l) is.0) (registering o d m (listen_tag l) (Registers.Waits p.0 p.1))) p.2
    (flows_then none none none (tried o d m (listen_tag l) is.0)
    (registering o d m (listen_tag l) (Registers.Waits p.0 p.1)) (try_listen none o d m l is.0)
    (listen none o d m l (Registers.Waits p.0 p.1)))

until_spent_flows : (o : Opening) (d : Dir) (m : Option ℕ) (l : HeldListener) (acts : Acts)
    → IsTriedUntilSpent o d m (listen_tag l) acts → Flows none none acts
until_spent_flows o d m l acts is =
    let p = is.2 in
    by_acts none none acts (then (tried o d m (listen_tag l) is.0) p.0) p.2
    (flows_then none none none (tried o d m (listen_tag l) is.0) p.0 (try_listen none o d m l is.0)
    (⊎_elim (λ e. by_acts none none p.0 _ e (idle none))
    (λ e. by_acts none none p.0 _ e (listen none o d m l Registers.Spent)) p.1))

listening_flows : (l : HeldListener) (m : Option ℕ) (acts : Acts) (stopped : Option ℕ)
    → IsListening l m acts stopped → Flows none none acts
listening_flows l m acts stopped is =
    ⊎_elim (λ p. until_taken_flows l.opening Dirs.Read m l acts p.0)
    (λ p. until_spent_flows l.opening Dirs.Read m l acts p.0) is

leaving_flows : (l : HeldListener) (acts : Acts) (stopped : Option ℕ) → IsLeaving l acts stopped
    → Flows none none acts
leaving_flows l acts stopped is =
    ⊎_elim (λ p. by_acts none none acts _ p.1 (close_quiet none l.opening p.0))
    (λ p. by_acts none none acts _ p.0 (idle none)) is

going_on_flows : (limit : ℕ) (l : HeldListener) (acts : Acts) (stopped : Option ℕ)
    → IsGoingOn limit l acts stopped → Flows none none acts
going_on_flows limit l acts stopped is =
    ⊎_elim (λ p. leaving_flows l acts stopped p.1) (λ p. listening_flows l None acts stopped p.1) is

taking_flows : (limit : ℕ) (l : HeldListener) (acts : Acts) (stopped : Option ℕ)
    → IsTakingLink limit l acts stopped → Flows none none acts
taking_flows limit l acts stopped is = let first = beginning_flows is.0 is.1 is.2 in ⊎_elim
    (λ p. by_acts none none acts is.0 p.2 first)
    (λ p. by_acts none none acts (then is.0 p.1) p.2
    (flows_then none none none is.0 p.1 first (going_on_flows limit l p.1 stopped p.3)))
    is.3

failing_flows : (l : HeldListener) (acts : Acts) (stopped : Option ℕ) → IsFailing l acts stopped
    → Flows none none acts
failing_flows l acts stopped is =
    ⊎_elim (λ p. listening_flows l None acts stopped p) (λ p. by_acts none none acts _ p.1 (idle none)) is

pub listener_flows : (limit : ℕ) (l : HeldListener) (marks : Marks) (acts : Acts) (stopped : Option ℕ)
    → IsListenerRun limit l marks acts stopped → Flows none none acts
listener_flows limit l marks acts stopped is = ⊎_elim
    (λ p. taking_flows limit is.0 acts stopped p.1)
    (λ q.
    ⊎_elim (λ p. listening_flows is.0 p.1 acts stopped p.3) (λ p. failing_flows is.0 acts stopped p.1) q) is.2

-- ---- the beginning, and a word with the tally

no_openings_flows : (tries : List Acts) (acts : Acts) → AreNoOpenings tries acts → Flows none none acts
no_openings_flows [] acts is = by_acts none none acts _ is (idle none)
no_openings_flows (x ∷ xs) acts is = by_acts none none acts (then is.0 x) is.3
    (flows_then none none none is.0 x (no_openings_flows xs is.0 is.1)
    (wasted none one_link x (no_opening_flows x is.2)))

at_last_flows : (o : Opening) (acts : Acts) → IsOpenedAtLast o acts → Flows none none acts
at_last_flows o acts is =
    let e = Entries.Open o.fd (Opens.Opened o) in
    by_acts none none acts (then is.1 (called e)) is.3
    (flows_then none none none is.1 (called e) (no_openings_flows is.0 is.1 is.2)
    (wasted none (one_opening o) (called e) (open_one o)))

never_flows : (acts : Acts) → IsOpenedNever acts → Flows none none acts
never_flows acts is =
    by_acts none none acts (then is.1 is.2) is.5
    (flows_then none none none is.1 is.2 (no_openings_flows is.0 is.1 is.3) (spent_flows is.2 is.4))

starting_at_flows : (o : Opening) (listener : ListenerTold) (acts : Acts) (stopped : Option ℕ)
    → IsStartingAt o listener acts stopped → Flows none none acts
starting_at_flows o listener acts stopped is = ⊎_elim
    (λ p. listening_flows (record { opening = o; listener = listener; accepted = 0 }) None acts stopped p)
    (λ p. by_acts none none acts _ p.0 (idle none)) is

pub starting_flows : (listener : ListenerTold) (acts : Acts) (stopped : Option ℕ)
    → IsStarting listener acts stopped → Flows none none acts
starting_flows listener acts stopped is = ⊎_elim
    (λ p. by_acts none none acts (then p.1 p.2) p.4 (flows_then none none none p.1 p.2
    (at_last_flows p.0 p.1 p.3) (starting_at_flows p.0 listener p.2 stopped p.5)))
    (λ p. never_flows acts p.0) is

pub note_flows : (acts : Acts) → IsNote acts → Flows none none acts
note_flows acts is = ⊎_elim
    (λ e. by_acts none none acts _ e (idle none))
    (λ p. by_acts none none acts _ p.3 (word p.0 p.1 p.2)) is
  where
    word : (r : TallyReply) (call : _) → ((call ≡ Tallies.Look) ⊎ ((code : ℕ) × (call ≡ Tallies.Stop code)))
        → Flows none none (counted (record { call = call; reply = r }))
    word r call is = ⊎_elim
        (λ e. subst (λ k. Flows none none (counted (record { call = k; reply = r }))) (sym e) (look none r))
        (λ p.
        subst (λ k. Flows none none (counted (record { call = k; reply = r }))) (sym p.1) (stop none p.0 r))
        is
