use Rattle.std.proofs.Common.{sym, ap, ◌∙◌, subst}
use Rattle.ready_queue.specs.Calls.{view_of}
use Rattle.event_mgr.specs.Manager.{IsFirst, mgr_view}
use Rattle.event_mgr.specs.declared.pass.MgrPass.{MgrPass}
use Rattle.warp_passes.proofs.shared.Shared.new.Goals as goal

pub returns-clause-first : goal.returns-clause-first
returns-clause-first g c = let e = c.in_ok-disp.ensures in record {
  mgr = subst (λ (m : MgrPass g.row.J.Denot). IsFirst (mgr_view m)) (sym e.mgr) c.in_ok-mgr.ensures.view;
  queue = ap view_of e.queue ∙ c.in_ok-queue.ensures.view;
  hand = e.hand;
  times = c.in_ok-times.ensures.view;
  cache = c.in_ok-cache.ensures.view;
  tally = c.in_ok-tally.ensures.view;
}
