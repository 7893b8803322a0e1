use Rattle.turn_cell.specs.Calls.{view_of}
use Rattle.event_mgr.proofs.ManagerLemmas.{given_back}
use Rattle.event_mgr.proofs.manager.EventManager.give_back.Goals as goal

pub returns-clause-step : goal.returns-clause-step
returns-clause-step g c =
    given_back c.args.fd (view_of c.args.pass.now) (view_of c.step.new.pass) c.step.result c.step.ensures.step
