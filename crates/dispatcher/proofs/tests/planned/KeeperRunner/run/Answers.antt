use Rattle.event_mgr.specs.Manager.{mgr_view}
use Rattle.dispatcher.proofs.Calls.{calls_none}
use Rattle.dispatcher.proofs.tests.planned.KeeperRunner.run.Goals as goal

pub returns-then-not-self-clause-made : goal.returns-then-not-self-clause-made
returns-then-not-self-clause-made g c = calls_none (mgr_view c.args._pass.now)

pub returns-clause-made : goal.returns-clause-made
returns-clause-made g c = calls_none (mgr_view c.args._pass.now)
