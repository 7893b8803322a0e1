use Rattle.event_mgr.specs.Manager.{IsOfMgr}
use Rattle.event_tests.proofs.tests.crowded_queue.register_all.Given as goal

abbrev pub invariant-loop-link : goal.invariant-loop-link
invariant-loop-link g l = IsOfMgr l.mgr l.pass
