use Rattle.std.proofs.Common.{◌≤◌}
use Rattle.warp_jobs.specs.HeldListener.{HeldListener}
use Rattle.std.proofs.Common.{refl, subst}
use Rattle.turn_cell.specs.Calls.{view_of}
use Rattle.event_mgr.specs.Manager.{mgr_view}
use Rattle.timeout_mgr.specs.Calls.{view_of as seen_of}
use Rattle.warp_runner.specs.Acts.{told_of}
use Rattle.warp_runner.proofs.Doing.{did_none}
use Rattle.warp_runner.proofs.Registering.{ran_as}
use Rattle.warp_runner.proofs.AcceptLemmas.{fails_broken, fails_again}
use Rattle.warp_runner.specs.Deeds.{IsFailing}
use Rattle.warp_runner.proofs.runner.ServerRunner.go_on_failed.Goals as goal

pub returns-then-is_broken-clause-did : goal.returns-then-is_broken-clause-did
returns-then-is_broken-clause-did g c =
    let was = c.args.self.now in
    let t = view_of was.tallied in
    let s = seen_of was.timed in
    let b = g.B.Book.told was.book in
    let u = told_of (mgr_view c.args.pass.now) t s b in
    let k = c.args.listening.value in
    ran_as u u c.after.result _ (IsFailing k) c.after.ensures
    (fails_broken k u (subst (λ (x : HeldListener). 1000 ≤ x.listener.failed_row) c.deref.ensures
    (c.if-is_broken.ensures.0 refl)) (did_none c.calls_of_runs.ensures u))

pub returns-else-is_broken-clause-did : goal.returns-else-is_broken-clause-did
returns-else-is_broken-clause-did g c =
    let was = c.args.self.now in
    let t = view_of was.tallied in
    let s = seen_of was.timed in
    let b = g.B.Book.told was.book in
    let u = told_of (mgr_view c.args.pass.now) t s b in
    let left = c.listen_again.new.self in
    let w = told_of (mgr_view c.listen_again.new.pass) (view_of left.tallied) (seen_of left.timed)
    (g.B.Book.told left.book) in
    fails_again c.args.listening.value u w c.listen_again.result c.listen_again.ensures.did
