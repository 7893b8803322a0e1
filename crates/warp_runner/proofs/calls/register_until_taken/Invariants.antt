use Rattle.std.proofs.Common.{◌≡◌}
use Rattle.event_mgr.specs.Manager.{IsOfMgr, mgr_view}
use Rattle.warp_runner.proofs.Trying.{TriedSo}
use Rattle.warp_runner.proofs.calls.register_until_taken.Given as goal

abbrev pub invariant-loop : goal.invariant-loop
invariant-loop g l = record {
  own : IsOfMgr l.mgr l.pass;
  same : g.T.Load.tag l.job ≡ g.T.Load.tag l.fn.job;
  tried : TriedSo l.fn.opening l.fn.dir l.fn.mark (g.T.Load.tag l.fn.job) (mgr_view l.fn.pass)
      (mgr_view l.pass);
}
