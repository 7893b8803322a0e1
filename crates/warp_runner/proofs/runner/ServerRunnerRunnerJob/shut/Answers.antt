use Rattle.turn_cell.specs.Calls.{view_of}
use Rattle.timeout_mgr.specs.Calls.{view_of as seen_of}
use Rattle.warp_runner.specs.Acts.{told_of}
use Rattle.warp_runner.proofs.Doing.{did_none}
use Rattle.warp_runner.proofs.Running.{dropped_fits}
use Rattle.dispatcher.specs.Firings.{job_at}
use Rattle.warp_jobs.specs.Tags.{tag_of}
use Rattle.warp_runner.proofs.runner.ServerRunnerRunnerJob.shut.Goals as goal

pub returns-clause-fits : goal.returns-clause-fits
returns-clause-fits g c =
    let was = c.args.self.now in
    let t = view_of was.tallied in
    let s = seen_of was.timed in
    let b = g.B.Book.told was.book in
    λ v rest o d m pre. (
      pre.0,
      dropped_fits was.limit (told_of v t s b) (told_of v t s b) rest
          (job_at o c.args._key d m (tag_of c.args._job)) was.stop
          (did_none c.calls_of_runs.ensures (told_of v t s b)) pre.1,
    )
