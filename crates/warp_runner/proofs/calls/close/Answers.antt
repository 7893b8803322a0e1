use Rattle.std.proofs.Common.{sym, subst}
use Rattle.event_mgr.specs.Manager.{mgr_view}
use Rattle.warp_runner.specs.Calls.{HasClosedIt}
use Rattle.warp_runner.proofs.Doing.{did_shut, did_not_open, did_close_spent}
use Rattle.warp_runner.proofs.calls.close.Goals.{in-Shut, in-NotOpen, in-Spent}
use Rattle.warp_runner.proofs.calls.close.Goals as goal

pub returns-clause-closed : goal.returns-clause-closed
returns-clause-closed g c =
    let v = mgr_view c.args.pass.now in
    let u = mgr_view c.close_fd.new.pass in
    let rules = c.calls_of_runs.ensures in
    let weighs = c.calls_weigh.ensures in
    elim c.match-close_fd.branch [
      | in-Shut w ↦ subst (λ r. HasClosedIt c.args.opening v r u) (sym w.result-is)
          (did_shut g.T.Load.tag rules weighs c.args.opening v u w.in-Shut.field-0 w.in-Shut.ensures.step)
      | in-NotOpen w ↦ subst (λ r. HasClosedIt c.args.opening v r u) (sym w.result-is)
          (did_not_open g.T.Load.tag rules weighs c.args.opening v u w.in-NotOpen.ensures.step)
      | in-Spent w ↦ subst (λ r. HasClosedIt c.args.opening v r u) (sym w.result-is)
          (did_close_spent g.T.Load.tag rules weighs c.args.opening v u w.in-Spent.ensures.step)
    ]
