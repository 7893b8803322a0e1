use Rattle.std.proofs.Common.{rules, refl, ap, inl, inr}
use Rattle.turn_cell.specs.Calls.{view_of}
use Rattle.timeout_mgr.specs.Calls.{view_of as seen_of}
use Rattle.warp_runner.specs.Acts.{told_of}
use Rattle.warp_runner.proofs.Doing.{did_none}
use Rattle.warp_runner.specs.Acts.{nothing}
use Rattle.warp_jobs.specs.Tags.{tag_of}
use Rattle.stripe_table.specs.Calls.{kind_of_job}
use Rattle.warp_runner.proofs.runner.ServerRunner.let_go.Goals as goal

pub returns-in-Some-Listen-clause-did : goal.returns-in-Some-Listen-clause-did
returns-in-Some-Listen-clause-did g c =
    let was = c.args.self.now in
    let t = view_of was.tallied in
    let s = seen_of was.timed in
    let b = g.B.Book.told was.book in (
      nothing,
      λ v. did_none c.calls_of_runs.ensures (told_of v t s b),
      inr (inr (c.in-Some-Listen._listening.value, search rules), refl, refl),
    )

pub returns-in-None-clause-did : goal.returns-in-None-clause-did
returns-in-None-clause-did g c =
    let was = c.args.self.now in
    let t = view_of was.tallied in
    let s = seen_of was.timed in
    let b = g.B.Book.told was.book in (
      nothing,
      λ v. did_none c.calls_of_runs.ensures (told_of v t s b),
      inr (inl (ap (λ j. kind_of_job (λ job. tag_of job) j) c.in-None.is), refl, refl),
    )
