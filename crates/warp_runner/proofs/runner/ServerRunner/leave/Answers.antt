use Rattle.std.proofs.Common.{ap, ◌∙◌}
use Rattle.turn_cell.specs.Calls.{view_of}
use Rattle.event_mgr.specs.Manager.{mgr_view}
use Rattle.timeout_mgr.specs.Calls.{view_of as seen_of}
use Rattle.warp_runner.specs.Acts.{told_of}
use Rattle.warp_runner.proofs.Registering.{ran_as}
use Rattle.warp_runner.proofs.AcceptLemmas.{leaves, leaves_spent}
use Rattle.warp_runner.specs.Deeds.{IsLeaving}
use Rattle.warp_runner.proofs.runner.ServerRunner.leave.Goals as goal

pub returns-in-Ok-clause-did : goal.returns-in-Ok-clause-did
returns-in-Ok-clause-did g c =
    let was = c.args.self.now in
    let t = view_of was.tallied in
    let s = seen_of was.timed in
    let b = g.B.Book.told was.book in
    let u = told_of (mgr_view c.args.pass.now) t s b in
    let w = told_of (mgr_view c.close-closed.new.pass) t s b in
    let same = c.opening.ensures ∙ ap (λ x. x.opening) c.deref.ensures in
    ran_as u w c.named.result _ (IsLeaving c.args.listening.value) c.named.ensures
    (leaves c.args.listening.value c.opening.result u w same
    (c.in-Ok.ensures.closed.0, c.in-Ok.ensures.closed.1 t s b))

pub returns-in-Err-clause-did : goal.returns-in-Err-clause-did
returns-in-Err-clause-did g c =
    let was = c.args.self.now in
    let t = view_of was.tallied in
    let s = seen_of was.timed in
    let b = g.B.Book.told was.book in
    let u = told_of (mgr_view c.args.pass.now) t s b in
    let w = told_of (mgr_view c.close-closed.new.pass) t s b in
    ran_as u w c.after.result _ (IsLeaving c.args.listening.value) c.after.ensures
    (leaves_spent c.args.listening.value u w (c.in-Err.ensures.closed t s b))
