use Rattle.std.proofs.Common.{ap, ◌∙◌}
use Rattle.turn_cell.specs.Calls.{view_of}
use Rattle.event_mgr.specs.Manager.{mgr_view}
use Rattle.timeout_mgr.specs.Calls.{view_of as seen_of}
use Rattle.warp_runner.specs.Acts.{told_of}
use Rattle.reg_keys.specs.declared.entry.LoadKind.TheVariants as Kinds
use Rattle.warp_jobs.specs.Tags.{tag_of}
use Rattle.warp_runner.proofs.Running.{runs_connection, runs_listener}
use Rattle.warp_runner.proofs.runner.ServerRunner.run_job.Goals as goal

pub returns-in-Serve-clause-ran : goal.returns-in-Serve-clause-ran
returns-in-Serve-clause-ran g c =
    let was = c.args.self.now in
    let t = view_of was.tallied in
    let s = seen_of was.timed in
    let b = g.B.Book.told was.book in
    let u = told_of (mgr_view c.args.pass.now) t s b in
    let left = c.serve.new.self in
    let w = told_of (mgr_view c.serve.new.pass) (view_of left.tallied) (seen_of left.timed)
    (g.B.Book.told left.book) in
    λ f kind same.
    runs_connection was.limit f c.args.marks u w c.serve.result same c.in-Serve.session.value
    (kind ∙ ap (λ j. Kinds.Job (tag_of j)) c.in-Serve.is, c.serve.ensures.counted) c.serve.ensures.did

pub returns-in-Listen-clause-ran : goal.returns-in-Listen-clause-ran
returns-in-Listen-clause-ran g c =
    let was = c.args.self.now in
    let t = view_of was.tallied in
    let s = seen_of was.timed in
    let b = g.B.Book.told was.book in
    let u = told_of (mgr_view c.args.pass.now) t s b in
    let left = c.listen.new.self in
    let w = told_of (mgr_view c.listen.new.pass) (view_of left.tallied) (seen_of left.timed)
    (g.B.Book.told left.book) in
    λ f kind same.
    runs_listener was.limit f c.args.marks u w c.listen.result same c.in-Listen.listening.value
    (kind ∙ ap (λ j. Kinds.Job (tag_of j)) c.in-Listen.is) c.listen.ensures.did
