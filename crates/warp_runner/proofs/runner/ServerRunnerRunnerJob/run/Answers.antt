use Rattle.std.proofs.Common.{sym, refl, ap, subst}
use Rattle.reg_keys.specs.declared.opening.Opening.{Opening}
use Rattle.turn_cell.specs.Calls.{view_of}
use Rattle.event_mgr.specs.Manager.{mgr_view}
use Rattle.timeout_mgr.specs.Calls.{view_of as seen_of}
use Rattle.stripe_table.specs.Calls.{kind_of_job}
use Rattle.dispatcher.specs.Firings.{firing_of, job_of}
use Rattle.dispatcher.specs.Runs.{HasMadeCalls}
use Rattle.warp_jobs.specs.Tags.{tag_of}
use Rattle.warp_runner.specs.Acts.{told_of}
use Rattle.warp_runner.specs.Journal.{FitsUntil}
use Rattle.warp_runner.specs.Runs.{named}
use Rattle.warp_runner.specs.SweepLaws.{run_sweeps_none}
use Rattle.warp_runner.proofs.Running.{run_fits}
use Rattle.warp_runner.proofs.runner.ServerRunnerRunnerJob.run.Goals as goal

pub returns-in_default-clause-made : goal.returns-in_default-clause-made
returns-in_default-clause-made g c = c.calls_of_runs.ensures.none (mgr_view c.args.pass.now)

pub returns-clause-fits : goal.returns-clause-fits
returns-clause-fits g c =
    let was = c.args.self.now in
    let left = c.run_job-ran.new.self in
    let e = c.run_job-ran.ensures in
    let ran = c.run_job-ran.result in
    let u =
    told_of (mgr_view c.args.pass.now) (view_of was.tallied) (seen_of was.timed) (g.B.Book.told was.book) in
    let w = told_of (mgr_view c.run_job-ran.new.pass) (view_of left.tallied) (seen_of left.timed)
    (g.B.Book.told left.book) in
    let kind = ap (λ j. kind_of_job (λ job. tag_of job) j) (sym c.in-Some.ensures.value) in
    λ o rest pre.
    let f = firing_of (λ job. tag_of job) o c.args.fired.now in (
      e.own,
      subst (λ n. FitsUntil n ran.stopped w rest) (sym e.same.1)
          (run_fits was.limit u w rest f (job_of f (kind_of_job (λ job. tag_of job) c.args.fired.now.job))
          (named ran) ran.stopped (ap (λ k. job_of f k) kind) (e.ran f kind refl) pre.1.0),
    )

pub returns-clause-made : goal.returns-clause-made
returns-clause-made g c =
    let first : Opening = record { number = 0; fd = 0 } in
    let f = firing_of (λ job. tag_of job) first c.args.fired.now in
    let kind = ap (λ j. kind_of_job (λ job. tag_of job) j) (sym c.in-Some.ensures.value) in
    let ran = c.run_job-ran.ensures.ran f kind refl in
    subst (λ l. HasMadeCalls (mgr_view c.args.pass.now) l (mgr_view c.run_job-ran.new.pass))
    (sym c.outcome.ensures.events) ran.1.made

pub returns-clause-keeps : goal.returns-clause-keeps
returns-clause-keeps g c =
    let first : Opening = record { number = 0; fd = 0 } in
    let was = c.args.self.now in
    let left = c.run_job-ran.new.self in
    let e = c.run_job-ran.ensures in
    let u =
    told_of (mgr_view c.args.pass.now) (view_of was.tallied) (seen_of was.timed) (g.B.Book.told was.book) in
    let w = told_of (mgr_view c.run_job-ran.new.pass) (view_of left.tallied) (seen_of left.timed)
    (g.B.Book.told left.book) in
    let f = firing_of (λ job. tag_of job) first c.args.fired.now in
    let kind = ap (λ j. kind_of_job (λ job. tag_of job) j) (sym c.in-Some.ensures.value) in
    let ran = c.run_job-ran.result in (
      e.same.0,
      e.same.1,
      e.stays.0,
      e.asked,
      run_sweeps_none was.limit f u w (named ran) ran.stopped (e.ran f kind refl),
    )
