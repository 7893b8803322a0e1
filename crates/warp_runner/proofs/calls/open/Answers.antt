use Rattle.event_mgr.specs.Manager.{mgr_view}
use Rattle.warp_runner.proofs.Doing.{did_opens}
use Rattle.warp_runner.proofs.calls.open.Goals as goal

pub returns-clause-opened : goal.returns-clause-opened
returns-clause-opened g c =
    did_opens g.T.Load.tag c.calls_of_runs.ensures c.calls_weigh.ensures (mgr_view c.args.pass.now)
    (mgr_view c.open_fd.new.pass) c.open_fd.result c.open_fd.ensures.step
