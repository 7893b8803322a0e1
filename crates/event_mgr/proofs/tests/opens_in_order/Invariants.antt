use Rattle.event_mgr.specs.Manager.{IsOfMgr}
use Rattle.event_mgr.proofs.tests.opens_in_order.Given as goal

abbrev pub invariant-loop-fd : goal.invariant-loop-fd
invariant-loop-fd g l = IsOfMgr l.mgr l.pass
