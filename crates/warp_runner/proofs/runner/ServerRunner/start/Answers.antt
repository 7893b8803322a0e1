use Rattle.std.proofs.Common.{arith, ap, inr}
use Rattle.turn_cell.specs.Calls.{view_of}
use Rattle.event_mgr.specs.Manager.{mgr_view}
use Rattle.timeout_mgr.specs.Calls.{view_of as seen_of}
use Rattle.warp_runner.specs.Acts.{told_of}
use Rattle.warp_runner.proofs.Registering.{ran_as}
use Rattle.warp_runner.proofs.TimingOut.{starts, starts_never, other_code}
use Rattle.warp_runner.specs.Deeds.{IsStarting}
use Rattle.warp_runner.proofs.runner.ServerRunner.start.Goals as goal

pub returns-in-Ok-clause-did : goal.returns-in-Ok-clause-did
returns-in-Ok-clause-did g c =
    let was = c.args.self.now in
    let t = view_of was.tallied in
    let s = seen_of was.timed in
    let b = g.B.Book.told was.book in
    let u = told_of (mgr_view c.args.pass.now) t s b in
    let v = told_of (mgr_view c.open_until_given.new.pass) t s b in
    let left = c.start_at.new.self in
    let w = told_of (mgr_view c.start_at.new.pass) (view_of left.tallied) (seen_of left.timed)
    (g.B.Book.told left.book) in
    let r = c.in-Ok.ensures.opened in
    starts (g.P.Listener.Listener.told c.args.listener) c.calls_of_runs.ensures u v w c.in-Ok.opening
    c.start_at.result r.0 (r.1 t s b) r.2 c.start_at.ensures.did

pub returns-in-Err-clause-did : goal.returns-in-Err-clause-did
returns-in-Err-clause-did g c =
    let was = c.args.self.now in
    let t = view_of was.tallied in
    let s = seen_of was.timed in
    let b = g.B.Book.told was.book in
    let u = told_of (mgr_view c.args.pass.now) t s b in
    let v = told_of (mgr_view c.open_until_given.new.pass) t s b in
    let r = c.in-Err.ensures.opened in
    ran_as u v c.after.result _ (IsStarting (g.P.Listener.Listener.told c.args.listener)) c.after.ensures
    (starts_never (g.P.Listener.Listener.told c.args.listener) u v (r.0, r.1 t s b, r.2))

pub returns-in-Err-clause-faulted : goal.returns-in-Err-clause-faulted
returns-in-Err-clause-faulted g c =
    other_code 10 c.after.result.stopped _ (ap (λ x. x.stopped) c.after.ensures) (inr (omega arith))
