-- What all deeds of a journal take and give together.
use Rattle.std.proofs.Common.{◌≡◌, ℕ, zero, suc, ◌+◌, ◌≤◌, List, [], ◌∷◌, ◌++◌, Bool, ⊎_elim, refl, sym, ap}
use Rattle.std.proofs.Common.{◌∙◌, subst, arith}
use Rattle.std.specs.Prelude.{◌==◌, ◌&&◌, Option}
use Rattle.reg_keys.specs.declared.opening.Opening.{Opening}
use Rattle.reg_keys.specs.declared.entry.LoadKind.TheVariants as Kinds
use Rattle.reg_keys.specs.Tests.{one_if, total}
use Rattle.turn_cell.specs.Weights.{weigh}
use Rattle.dispatcher.specs.Entries.{Firing}
use Rattle.dispatcher.specs.Firings.{Jobs}
use Rattle.warp_jobs.specs.Held.{Held}
use Rattle.warp_jobs.specs.Tags.{serve_tag}
use Rattle.warp_runner.specs.Acts.{Acts, nothing, then}
use Rattle.warp_runner.specs.Journal.{AreDeeds, Deed, IsDeed, IsRun, all_of}
use Rattle.whole_runs.proofs.Flows.{Flows, jobs_at, of_fired, of_job}
use Rattle.whole_runs.proofs.Flowing.{flows_fit, flows_then, total_append}
use Rattle.whole_runs.proofs.Leaves.{by_acts, idle, job_next, job_none, none, one_job, unused, wasted}
use Rattle.whole_runs.proofs.RunFlows.{connection_flows, of_held, sweeping_flows}
use Rattle.whole_runs.proofs.ListenFlows.{listener_flows, note_flows, starting_flows}

-- what a run's job lets be done, by the tag
run_job : (h : Held) (f : Firing) → f.1.kind ≡ Kinds.Job (serve_tag h) → (these : Opening → Bool) (c : ℕ)
    → one_if (these h.opening && (h.number + 1 == c)) ≤ jobs_at (f ∷ []) these c
run_job h f is these zero = let z = job_none (these h.opening) h.number in omega arith
run_job h f is these (suc k) =
    let z = job_next (these h.opening) h.number k in
    let w = of_held h f.1.kind is these k in
    omega arith

run_flows : (limit : ℕ) (f : Firing) (acts : Acts) (stopped : Option ℕ) → IsRun limit f acts stopped
    → Flows (of_fired (f ∷ [])) none acts
run_flows limit f acts stopped is = ⊎_elim
    (λ p. flows_fit (one_job p.0.opening (p.0.number + 1)) none (of_fired (f ∷ [])) none acts
    (record {
      jobs = λ these c. let z = run_job p.0 f p.1.0 these c in omega arith;
      links = omega arith;
      openings = λ these. omega arith;
    })
    (connection_flows p.0 f.1.marks acts stopped p.1.1 p.2))
    (λ p. unused (of_fired (f ∷ [])) acts (listener_flows limit p.0 f.1.marks acts stopped p.2)) is

deed_flows : (limit : ℕ) (d : Deed) → IsDeed limit d → Flows (of_fired d.job) none d.acts
deed_flows limit d is = ⊎_elim
    (λ p. subst (λ js. Flows (of_fired js) none d.acts) (sym p.1) (run_flows limit p.0 d.acts d.stopped p.2))
    (λ q. ⊎_elim
    (λ p. unused (of_fired d.job) d.acts (by_acts none none d.acts _ p.2 (idle none)))
    (λ q. ⊎_elim
    (λ p. unused (of_fired d.job) d.acts (sweeping_flows d.acts d.stopped p.1))
    (λ q. ⊎_elim
    (λ p. unused (of_fired d.job) d.acts (note_flows d.acts p.1))
    (λ p. unused (of_fired d.job) d.acts (starting_flows p.0 d.acts d.stopped p.2))
    q) q) q) is

-- the acts of all deeds
pub acts_of : List Deed → Acts
acts_of [] = nothing
acts_of (d ∷ ds) = then d.acts (acts_of ds)

-- the jobs of all deeds
pub jobs_in : List Deed → Jobs
jobs_in [] = []
jobs_in (d ∷ ds) = d.job ++ jobs_in ds

jobs_more : (js ks : Jobs) (these : Opening → Bool) (c : ℕ)
    → jobs_at js these c + jobs_at ks these c ≡ jobs_at (js ++ ks) these c
jobs_more js ks these zero = omega arith
jobs_more js ks these (suc k) =
    let a = total_append (λ (f : Firing). of_job these k f.1.kind) js ks in
    omega arith

pub journal_flows : (limit : ℕ) (ds : List Deed) → AreDeeds limit ds
    → Flows (of_fired (jobs_in ds)) none (acts_of ds)
unfolding acts_of jobs_in
journal_flows limit [] are = wasted (of_fired []) (of_fired []) nothing (idle (of_fired []))
journal_flows limit (d ∷ ds) are =
    flows_then (of_fired (d.job ++ jobs_in ds)) (of_fired (jobs_in ds)) none d.acts (acts_of ds)
    (flows_fit (of_fired d.job) none (of_fired (d.job ++ jobs_in ds)) (of_fired (jobs_in ds)) d.acts
    (record {
      jobs = λ these c. let z = jobs_more d.job (jobs_in ds) these c in omega arith;
      links = omega arith;
      openings = λ these. omega arith;
    }) (deed_flows limit d are.0))
    (journal_flows limit ds are.1)

-- what the acts of all deeds have is what the deeds have
module _ {A : Type 0} (field : Acts → List A)
    (none_of : field nothing ≡ []) (join : (a b : Acts) → field (then a b) ≡ field a ++ field b) where
  pub acts_are : (ds : List Deed) → field (acts_of ds) ≡ all_of (λ d. field d.acts) ds
  unfolding acts_of
  acts_are [] = none_of
  acts_are (d ∷ ds) = join d.acts (acts_of ds) ∙ ap (λ (l : List A). field d.acts ++ l) (acts_are ds)

pub all_out_are : (ds : List Deed) → (acts_of ds).all_out ≡ weigh (λ (d : Deed). d.acts.all_out) ds
unfolding acts_of
all_out_are [] = refl
all_out_are (d ∷ ds) = let r = all_out_are ds in omega arith

pub jobs_weigh : (φ : Firing → ℕ) (ds : List Deed)
    → total φ (jobs_in ds) ≡ weigh (λ (d : Deed). total φ d.job) ds
unfolding jobs_in
jobs_weigh φ [] = refl
jobs_weigh φ (d ∷ ds) =
    let r = jobs_weigh φ ds in
    let a = total_append φ d.job (jobs_in ds) in omega arith
