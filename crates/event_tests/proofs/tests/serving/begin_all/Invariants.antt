use Rattle.ready_queue.specs.Calls.{IsOf}
use Rattle.event_mgr.specs.Manager.{IsOfMgr}
use Rattle.event_tests.proofs.tests.serving.begin_all.Given as goal

abbrev pub invariant-loop : goal.invariant-loop
invariant-loop g l = IsOfMgr l.shop.mgr l.shop.pass × IsOf l.shop.queue l.shop.place
