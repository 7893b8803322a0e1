use Rattle.event_mgr.specs.Manager.{mgr_view}
use Rattle.event_tests.proofs.Owing.{owes_closed}
use Rattle.event_tests.proofs.calls.close.Goals as goal

pub returns-clause-made : goal.returns-clause-made
returns-clause-made g c =
    c.calls_of_runs.ensures.closed c.args.opening (mgr_view c.args.pass.now) c.close_fd-closed.result
    (mgr_view c.close_fd-closed.new.pass) c.close_fd-closed.ensures.step

pub returns-clause-owes : goal.returns-clause-owes
returns-clause-owes g c p n finishes jobs owes =
    owes_closed g.T.Load.tag c.calls_weigh.ensures p n finishes (mgr_view c.args.pass.now)
    (mgr_view c.close_fd-closed.new.pass) jobs owes c.args.opening c.close_fd-closed.result
    c.close_fd-closed.ensures.step
