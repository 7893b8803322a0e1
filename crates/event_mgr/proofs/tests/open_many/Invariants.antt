use Rattle.event_mgr.specs.Manager.{IsOfMgr}
use Rattle.event_mgr.proofs.tests.open_many.Given as goal

abbrev pub invariant-loop : goal.invariant-loop
invariant-loop g l = IsOfMgr l.mgr l.pass
