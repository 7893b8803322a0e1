use Rattle.event_mgr.specs.Manager.{IsOfMgr, mgr_view}
use Rattle.warp_runner.proofs.Trying.{OpenedSo}
use Rattle.warp_runner.proofs.calls.open_until_given.Given as goal

abbrev pub invariant-loop : goal.invariant-loop
invariant-loop g l = record {
  own : IsOfMgr l.mgr l.pass;
  tried : OpenedSo (mgr_view l.fn.pass) (mgr_view l.pass);
}
