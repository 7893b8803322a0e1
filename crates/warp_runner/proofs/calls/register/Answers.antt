use Rattle.event_mgr.specs.Manager.{mgr_view}
use Rattle.warp_runner.proofs.Doing.{did_wait, did_crowd, did_find_shut, did_find_spent, same_job, crowd_back}
use Rattle.warp_runner.proofs.Doing.{shut_back}
use Rattle.warp_runner.proofs.calls.register.Goals as goal

pub returns-in-Waits-clause-registered : goal.returns-in-Waits-clause-registered
returns-in-Waits-clause-registered g c = (
  c.in-Waits.field-0,
  did_wait g.T.Load.tag c.calls_of_runs.ensures c.calls_weigh.ensures c.args.opening
      (mgr_view c.args.pass.now) (mgr_view c.register.new.pass)
      c.args.dir c.args.mark c.args.job c.in-Waits.field-0 c.in-Waits.event c.in-Waits.ensures.step,
)

pub returns-in-Crowded-clause-registered : goal.returns-in-Crowded-clause-registered
returns-in-Crowded-clause-registered g c = (
  same_job c.in-Crowded.back c.job_of.result c.args.job c.job_of.ensures
      (crowd_back g.T.Load.tag c.args.opening c.args.dir c.args.mark c.args.job (mgr_view c.args.pass.now)
      (mgr_view c.register.new.pass) c.in-Crowded.back c.in-Crowded.ensures.step),
  did_crowd g.T.Load.tag c.calls_of_runs.ensures c.calls_weigh.ensures c.args.opening
      (mgr_view c.args.pass.now) (mgr_view c.register.new.pass)
      c.args.dir c.args.mark c.args.job c.in-Crowded.back c.in-Crowded.ensures.step,
)

pub returns-in-Shut-clause-registered : goal.returns-in-Shut-clause-registered
returns-in-Shut-clause-registered g c = (
  same_job c.in-Shut.back c.job_of-in-Shut.result c.args.job c.job_of-in-Shut.ensures
      (shut_back g.T.Load.tag c.args.opening c.args.dir c.args.mark c.args.job (mgr_view c.args.pass.now)
      (mgr_view c.register.new.pass) c.in-Shut.back c.in-Shut.ensures.step),
  did_find_shut g.T.Load.tag c.calls_of_runs.ensures c.calls_weigh.ensures c.args.opening
      (mgr_view c.args.pass.now) (mgr_view c.register.new.pass)
      c.args.dir c.args.mark c.args.job c.in-Shut.back c.in-Shut.ensures.step,
)

pub returns-clause-registered : goal.returns-clause-registered
returns-clause-registered g c =
    did_find_spent g.T.Load.tag c.calls_of_runs.ensures c.calls_weigh.ensures c.args.opening
    (mgr_view c.args.pass.now) (mgr_view c.register.new.pass)
    c.args.dir c.args.mark c.args.job c.in-Spent.field-0 c.in-Spent.ensures.step
