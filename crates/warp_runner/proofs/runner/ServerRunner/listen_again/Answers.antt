use Rattle.std.proofs.Common.{ap, ◌∙◌}
use Rattle.turn_cell.specs.Calls.{view_of}
use Rattle.event_mgr.specs.Manager.{mgr_view}
use Rattle.timeout_mgr.specs.Calls.{view_of as seen_of}
use Rattle.warp_runner.specs.Acts.{told_of}
use Rattle.warp_runner.proofs.Registering.{ran_as}
use Rattle.warp_runner.proofs.AcceptLemmas.{listens, listens_spent}
use Rattle.warp_runner.specs.Deeds.{IsListening}
use Rattle.warp_runner.proofs.runner.ServerRunner.listen_again.Goals as goal

pub returns-in-Ok-clause-did : goal.returns-in-Ok-clause-did
returns-in-Ok-clause-did g c =
    let was = c.args.self.now in
    let t = view_of was.tallied in
    let s = seen_of was.timed in
    let b = g.B.Book.told was.book in
    let u = told_of (mgr_view c.args.pass.now) t s b in
    let w = told_of (mgr_view c.register_until_taken.new.pass) t s b in
    let same = c.opening-opening.ensures ∙ ap (λ x. x.opening) c.deref.ensures in
    let r = c.in-Ok.ensures.registered in
    ran_as u w c.named.result _ (IsListening c.args.listening.value c.args.mark) c.named.ensures
    (listens c.args.listening.value c.args.mark c.opening-opening.result c.in-Ok.event u w same
    (r.0, r.1 t s b, r.2))

pub returns-in-Err-clause-did : goal.returns-in-Err-clause-did
returns-in-Err-clause-did g c =
    let was = c.args.self.now in
    let t = view_of was.tallied in
    let s = seen_of was.timed in
    let b = g.B.Book.told was.book in
    let u = told_of (mgr_view c.args.pass.now) t s b in
    let w = told_of (mgr_view c.register_until_taken.new.pass) t s b in
    let same = c.opening-opening.ensures ∙ ap (λ x. x.opening) c.deref.ensures in
    let r = c.in-Err.ensures.registered in
    ran_as u w c.after.result _ (IsListening c.args.listening.value c.args.mark) c.after.ensures
    (listens_spent c.args.listening.value c.args.mark c.opening-opening.result u w same (r.0, r.1 t s b, r.2))
