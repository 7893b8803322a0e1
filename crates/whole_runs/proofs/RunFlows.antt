-- What a run of a connection, and a sweep, takes and gives.
use Rattle.std.proofs.Common.{◌≡◌, ℕ, zero, suc, ◌+◌, ◌≤◌, List, [], ◌∷◌, Bool, true, false, ⊎_elim, inl, inr}
use Rattle.std.proofs.Common.{refl, sym, ap, subst, arith}
use Rattle.std.specs.Prelude.{◌==◌, ◌&&◌, Option, Some, None}
use Rattle.reg_keys.specs.declared.opening.Opening.{Opening}
use Rattle.reg_keys.specs.declared.registration.Dir.{Dir}
use Rattle.reg_keys.specs.declared.registration.Marks.{Marks}
use Rattle.reg_keys.specs.declared.entry.Entry.TheVariants as Entries
use Rattle.reg_keys.specs.declared.entry.LoadKind.{LoadKind}
use Rattle.reg_keys.specs.declared.entry.LoadKind.TheVariants as Kinds
use Rattle.reg_keys.specs.declared.entry.RegisterOutcome.TheVariants as Registers
use Rattle.reg_keys.specs.declared.entry.ShutKey.{ShutKey}
use Rattle.reg_keys.specs.Tests.{one_if}
use Rattle.timeout_mgr.specs.declared.view.WatchName.{WatchName}
use Rattle.timeout_mgr.specs.declared.view.TimeCall.TheVariants.{Tickle, Sweep}
use Rattle.conn_loop.specs.declared.step.End.{End}
use Rattle.warp_books.specs.declared.finish.Finish.TheVariants.{Ended, TimedOut, TurnedAway}
use Rattle.warp_books.specs.declared.finish.Turned.TheVariants as Turns
use Rattle.warp_books.specs.Books.{FinishedTold}
use Rattle.warp_jobs.specs.Held.{Held}
use Rattle.warp_jobs.specs.Tags.{serve_tag}
use Rattle.warp_runner.specs.Acts.{Acts, called, watched, then}
use Rattle.warp_runner.specs.Deeds.{InTurn, IsConnectionRun, IsEnding, IsEndingBare, IsHanding, IsLetGo}
use Rattle.warp_runner.specs.Deeds.{IsParting, IsRegistering, IsSweeping, IsTimingOut, end_of_shut}
use Rattle.warp_runner.specs.Deeds.{finished_held, handing, mark_at, registering, shut_by}
use Rattle.whole_runs.specs.Registrations.{CountsFor, MayLackOne}
use Rattle.whole_runs.proofs.Flows.{Flows, of_job, of_shut, shut_at}
use Rattle.whole_runs.proofs.Flowing.{flows_fit, flows_then}
use Rattle.whole_runs.proofs.Leaves.{by_acts, close, close_quiet, hand, idle, call_quiet, job_next, job_none}
use Rattle.whole_runs.proofs.Leaves.{none, one_job, register, wasted, watch}

-- ---- a connection ends

pub handing_flows : (h : FinishedTold) (n : ℕ) (acts : Acts) (stopped : Option ℕ) → CountsFor h.end h.waits n
    → IsHanding h acts stopped → Flows (one_job h.opening n) none acts
handing_flows h n acts stopped counts is = ⊎_elim
    (λ p. by_acts (one_job h.opening n) none acts (handing h p.0) p.1 (hand h n p.0 counts))
    (λ p. by_acts (one_job h.opening n) none acts _ p.0
    (wasted (one_job h.opening n) (one_job h.opening n) _ (idle (one_job h.opening n))))
    is

pub parting_flows : (w : WatchName) (h : FinishedTold) (n : ℕ) (acts : Acts) (stopped : Option ℕ)
    → CountsFor h.end h.waits n → IsParting w h acts stopped → Flows (one_job h.opening n) none acts
parting_flows w h n acts stopped counts is =
    let x = one_job h.opening n in
    by_acts x none acts (then (watched is.0) is.1) is.4
    (flows_then x x none (watched is.0) is.1 (watch x is.0) (handing_flows h n is.1 is.2 counts is.5))

pub ending_flows : (w : WatchName) (h : FinishedTold) (n : ℕ) (acts : Acts) (stopped : Option ℕ)
    → CountsFor h.end h.waits n → IsEnding w h acts stopped → Flows (one_job h.opening n) none acts
ending_flows w h n acts stopped counts is = let x = one_job h.opening n in ⊎_elim
    (λ p. by_acts x none acts (then (called (Entries.Close h.opening p.0)) p.1) p.2
    (flows_then x x none (called (Entries.Close h.opening p.0)) p.1 (close_quiet x h.opening p.0)
    (parting_flows w h n p.1 stopped counts p.3)))
    (λ p. by_acts x none acts _ p.0 (wasted x x _ (idle x))) is

pub ending_bare_flows : (h : FinishedTold) (n : ℕ) (acts : Acts) (stopped : Option ℕ)
    → CountsFor h.end h.waits n → IsEndingBare h acts stopped → Flows (one_job h.opening n) none acts
ending_bare_flows h n acts stopped counts is = let x = one_job h.opening n in ⊎_elim
    (λ p. by_acts x none acts (then (called (Entries.Close h.opening p.0)) p.1) p.2
    (flows_then x x none (called (Entries.Close h.opening p.0)) p.1 (close_quiet x h.opening p.0)
    (handing_flows h n p.1 stopped counts p.3)))
    (λ p. by_acts x none acts _ p.0 (wasted x x _ (idle x))) is

-- ---- a connection is registered

may_shut : (alive : Bool) → MayLackOne (end_of_shut alive)
may_shut true = tt
may_shut false = tt

pub registering_flows : (h : Held) (d : Dir) (m : Option ℕ) (acts : Acts) (stopped : Option ℕ)
    → h.conn.waits ≡ h.number → IsRegistering h d m acts stopped
    → Flows (one_job h.opening h.number) none acts
registering_flows h d m acts stopped tied is = let x = one_job h.opening h.number in ⊎_elim
    (λ p. by_acts x none acts (registering h.opening d m (serve_tag h) (Registers.Waits p.0 p.1)) p.2
    (register h d m p.0 p.1))
    (λ q. ⊎_elim
    (λ p. by_acts x none acts (then (registering h.opening d m (serve_tag h) Registers.Crowded) p.0) p.1
    (flows_then x x none (registering h.opening d m (serve_tag h) Registers.Crowded) p.0
    (call_quiet x (Entries.Register h.opening d m (Kinds.Job (serve_tag h)) Registers.Crowded)
    (λ these c. refl) (λ these. refl))
    (ending_flows h.watch (finished_held h (TurnedAway Turns.Crowded)) h.number p.0 stopped
    (inr (tt, sym tied)) p.2)))
    (λ q. ⊎_elim
    (λ p. let rest = then (watched (Tickle h.watch p.0 ∷ [])) p.1 in
    by_acts x none acts (then (registering h.opening d m (serve_tag h) Registers.Shut) rest) p.2
    (flows_then x x none (registering h.opening d m (serve_tag h) Registers.Shut) rest
    (call_quiet x (Entries.Register h.opening d m (Kinds.Job (serve_tag h)) Registers.Shut)
    (λ these c. refl) (λ these. refl))
    (flows_then x x none (watched (Tickle h.watch p.0 ∷ [])) p.1 (watch x (Tickle h.watch p.0 ∷ []))
    (ending_flows h.watch (finished_held h (end_of_shut p.0)) h.number p.1 stopped
    (inr (may_shut p.0, sym tied)) p.3))))
    (λ p. ⊎_elim
    (λ e. by_acts x none acts _ e (wasted x x _ (idle x)))
    (λ e. by_acts x none acts _ e (wasted x x _ (call_quiet x (Entries.Register h.opening d m
    (Kinds.Job (serve_tag h)) Registers.Spent) (λ these c. refl) (λ these. refl)))) p.0)
    q) q) is

-- ---- a run of a connection

-- a connection that is another's going on
at_held : (o p : Opening) (n m : ℕ) (acts : Acts) → p ≡ o → m ≡ n → Flows (one_job p m) none acts
    → Flows (one_job o n) none acts
at_held o p n m acts e f s =
    subst (λ q. Flows (one_job q n) none acts) e (subst (λ k. Flows (one_job p k) none acts) f s)

pub connection_flows : (h : Held) (marks : Marks) (acts : Acts) (stopped : Option ℕ) → h.conn.waits ≡ h.number
    → IsConnectionRun h marks acts stopped → Flows (one_job h.opening (h.number + 1)) none acts
connection_flows h marks acts stopped tied is = let x = one_job h.opening (h.number + 1) in ⊎_elim
    (λ p. by_acts x none acts (then (watched (Tickle h.watch false ∷ [])) p.0) p.1
    (flows_then x x none (watched (Tickle h.watch false ∷ [])) p.0 (watch x (Tickle h.watch false ∷ []))
    (ending_flows h.watch (finished_held h TimedOut) (h.number + 1) p.0 stopped (inl (omega arith)) p.2)))
    (λ q. ⊎_elim
    (λ p. by_acts x none acts (then (watched (Tickle h.watch true ∷ [])) p.2) p.5
    (flows_then x x none (watched (Tickle h.watch true ∷ [])) p.2 (watch x (Tickle h.watch true ∷ []))
    (ended p.0 p.1 p.2 p.3.opening p.3.counted p.4 p.6)))
    (λ q. ⊎_elim
    (λ p. by_acts x none acts (then (watched (Tickle h.watch true ∷ [])) p.2) p.5
    (flows_then x x none (watched (Tickle h.watch true ∷ [])) p.2 (watch x (Tickle h.watch true ∷ []))
    (at_held h.opening p.0.opening (h.number + 1) p.0.number p.2 p.3.opening p.4
    (registering_flows p.0 p.1 (Some (mark_at p.1 marks)) p.2 stopped p.3.counted p.6))))
    (λ p. by_acts x none acts _ p.0 (wasted x x _ (watch x (Tickle h.watch true ∷ []))))
    q) q) is
  where
    ended : (k : Held) (end : End) (rest : Acts) → k.opening ≡ h.opening → k.conn.waits ≡ k.number
        → k.number ≡ h.number
        → IsEnding h.watch (finished_held k (Ended end)) rest stopped
        → Flows (one_job h.opening (h.number + 1)) none rest
    ended k end rest same counted number ends =
        at_held h.opening k.opening (h.number + 1) (h.number + 1) rest same refl
        (ending_flows h.watch (finished_held k (Ended end)) (h.number + 1) rest stopped
        (inl (omega arith)) ends)

-- ---- a sweep

-- a job of this number, by its tag
pub of_held : (h : Held) (kind : LoadKind) → kind ≡ Kinds.Job (serve_tag h) → (these : Opening → Bool) (k : ℕ)
    → of_job these k kind ≡ one_if (these h.opening && (h.number == k))
of_held h kind is these k = ap (of_job these k) is

let_go_job : (h : Held) (x : ShutKey) → x.kind ≡ Kinds.Job (serve_tag h) → (these : Opening → Bool) (c : ℕ)
    → one_if (these h.opening && (h.number + 1 == c)) ≤ shut_at (x ∷ []) these c
let_go_job h x is these zero = let z = job_none (these h.opening) h.number in omega arith
let_go_job h x is these (suc k) =
    let z = job_next (these h.opening) h.number k in
    let w = of_held h x.kind is these k in
    omega arith

let_go_flows : (x : ShutKey) (acts : Acts) (stopped : Option ℕ) → IsLetGo x acts stopped
    → Flows (of_shut (x ∷ [])) none acts
let_go_flows x acts stopped is = ⊎_elim
    (λ p. flows_fit (one_job p.0.opening (p.0.number + 1)) none (of_shut (x ∷ [])) none acts
    (record {
      jobs = λ these c. let z = let_go_job p.0 x p.1.0 these c in omega arith;
      links = omega arith;
      openings = λ these. omega arith;
    })
    (let tied = p.1.1 in parting_flows p.0.watch (finished_held p.0 TimedOut)
    (p.0.number + 1) acts stopped (inl (omega arith)) p.2))
    (λ p. by_acts (of_shut (x ∷ [])) none acts _ p.1
    (wasted (of_shut (x ∷ [])) (of_shut (x ∷ [])) _ (idle (of_shut (x ∷ [])))))
    is

shut_more : (x : ShutKey) (xs : List ShutKey) (these : Opening → Bool) (c : ℕ)
    → shut_at (x ∷ []) these c + shut_at xs these c ≡ shut_at (x ∷ xs) these c
shut_more x xs these zero = omega arith
shut_more x xs these (suc k) = omega arith

all_go_flows : (xs : List ShutKey) (acts : Acts) (stopped : Option ℕ) → InTurn IsLetGo xs acts stopped
    → Flows (of_shut xs) none acts
all_go_flows [] acts stopped is =
    by_acts (of_shut []) none acts _ is.0 (wasted (of_shut []) (of_shut []) _ (idle (of_shut [])))
all_go_flows (x ∷ xs) acts stopped is = ⊎_elim
    (λ p. flows_fit (of_shut (x ∷ [])) none (of_shut (x ∷ xs)) none acts
    (record {
      jobs = λ these c. let z = shut_more x xs these c in omega arith;
      links = omega arith;
      openings = λ these. omega arith;
    }) (let_go_flows x acts stopped p.2))
    (λ p. by_acts (of_shut (x ∷ xs)) none acts (then p.0 p.1) p.3
    (flows_then (of_shut (x ∷ xs)) (of_shut xs) none p.0 p.1
    (flows_fit (of_shut (x ∷ [])) none (of_shut (x ∷ xs)) (of_shut xs) p.0
    (record {
      jobs = λ these c. let z = shut_more x xs these c in omega arith;
      links = omega arith;
      openings = λ these. omega arith;
    }) (let_go_flows x p.0 None p.2))
    (all_go_flows xs p.1 stopped p.4))) is

timing_flows : (o : Opening) (acts : Acts) (stopped : Option ℕ) → IsTimingOut o acts stopped
    → Flows none none acts
timing_flows o acts stopped is = ⊎_elim
    (λ p. by_acts none none acts (then (called (Entries.Close o p.0)) p.1) p.2
    (flows_then none (of_shut (shut_by p.0)) none (called (Entries.Close o p.0)) p.1 (close o p.0)
    (all_go_flows (shut_by p.0) p.1 stopped p.3)))
    (λ p. by_acts none none acts _ p.0 (idle none)) is

all_time_flows : (os : List Opening) (acts : Acts) (stopped : Option ℕ) → InTurn IsTimingOut os acts stopped
    → Flows none none acts
all_time_flows [] acts stopped is = by_acts none none acts _ is.0 (idle none)
all_time_flows (o ∷ os) acts stopped is = ⊎_elim
    (λ p. timing_flows o acts stopped p.2)
    (λ p. by_acts none none acts (then p.0 p.1) p.3
    (flows_then none none none p.0 p.1 (timing_flows o p.0 None p.2) (all_time_flows os p.1 stopped p.4)))
    is

pub sweeping_flows : (acts : Acts) (stopped : Option ℕ) → IsSweeping acts stopped → Flows none none acts
sweeping_flows acts stopped is = by_acts none none acts (then (watched (Sweep is.0 ∷ [])) is.1) is.2
    (flows_then none none none (watched (Sweep is.0 ∷ [])) is.1 (watch none (Sweep is.0 ∷ []))
    (all_time_flows is.0 is.1 stopped is.3))
