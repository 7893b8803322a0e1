use Rattle.warp_runner.specs.Deeds.{no_memory}
use Rattle.std.proofs.Common.{arith, sym, refl, ap, ◌∙◌, inl, inr}
use Rattle.std.specs.Prelude.{None}
use Rattle.turn_cell.specs.Calls.{view_of}
use Rattle.event_mgr.specs.Manager.{mgr_view}
use Rattle.timeout_mgr.specs.Calls.{view_of as seen_of}
use Rattle.warp_runner.specs.Acts.{told_of}
use Rattle.warp_runner.proofs.Doing.{did_none}
use Rattle.warp_runner.proofs.Registering.{ran_as}
use Rattle.warp_runner.proofs.TimingOut.{starts_at_fault, other_code, listening_faults_none, risen}
use Rattle.warp_runner.specs.Deeds.{IsStartingAt}
use Rattle.warp_runner.proofs.runner.ServerRunner.start_at.Goals as goal

pub returns-in-Some-clause-did : goal.returns-in-Some-clause-did
returns-in-Some-clause-did g c =
    let was = c.args.self.now in
    let t = view_of was.tallied in
    let s = seen_of was.timed in
    let b = g.B.Book.told was.book in
    let u = told_of (mgr_view c.args.pass.now) t s b in
    ran_as u u c.after.result _
    (IsStartingAt c.args.opening (g.P.Listener.Listener.told c.args.listener)) c.after.ensures
    (starts_at_fault (g.P.Listener.Listener.told c.args.listener) c.args.opening u c.in-Some.code
    c.in-Some.ensures.code (did_none c.calls_of_runs.ensures u))

pub returns-in-Err-clause-did : goal.returns-in-Err-clause-did
returns-in-Err-clause-did g c =
    let was = c.args.self.now in
    let t = view_of was.tallied in
    let s = seen_of was.timed in
    let b = g.B.Book.told was.book in
    let u = told_of (mgr_view c.args.pass.now) t s b in
    ran_as u u c.after-in-Err.result _
    (IsStartingAt c.args.opening (g.P.Listener.Listener.told c.args.listener)) c.after-in-Err.ensures
    (starts_at_fault (g.P.Listener.Listener.told c.args.listener) c.args.opening u no_memory
    (inr refl) (did_none c.calls_of_runs.ensures u))

pub returns-in-Some-clause-faulted : goal.returns-in-Some-clause-faulted
returns-in-Some-clause-faulted g c = λ e.
    let f = c.add_listener.ensures.faulted in
    let code = ap (λ x. x.stopped) c.after.ensures in
    risen _ _ (f.failed (c.not_listened.ensures.cause (c.in-Some.is ∙ sym code ∙ e)))

pub returns-in-Ok-clause-faulted : goal.returns-in-Ok-clause-faulted
returns-in-Ok-clause-faulted g c =
    let d = c.listen_again.ensures.did in
    listening_faults_none c.in-Ok.listening.value None d.0 c.listen_again.result.stopped _ d.2

pub returns-in-Err-clause-faulted : goal.returns-in-Err-clause-faulted
returns-in-Err-clause-faulted g c =
    other_code 6 c.after-in-Err.result.stopped _ (ap (λ x. x.stopped) c.after-in-Err.ensures)
    (inl (omega arith))
