use Rattle.turn_cell.specs.Calls.{view_of}
use Rattle.event_mgr.specs.Manager.{mgr_view}
use Rattle.timeout_mgr.specs.Calls.{view_of as seen_of}
use Rattle.warp_runner.specs.Acts.{told_of}
use Rattle.warp_tally.specs.declared.calls.TallyCall.TheVariants.{Accept}
use Rattle.warp_runner.specs.Deeds.{IsAdmitting}
use Rattle.warp_runner.proofs.Registering.{ran_as}
use Rattle.warp_runner.proofs.AcceptLemmas.{did_count, did_no_count, admits, admits_none, admits_spent}
use Rattle.warp_runner.proofs.runner.ServerRunner.admit.Goals as goal

pub returns-in-Yes-clause-did : goal.returns-in-Yes-clause-did
returns-in-Yes-clause-did g c =
    let was = c.args.self.now in
    let t = view_of was.tallied in
    let s = seen_of was.timed in
    let b = g.B.Book.told was.book in
    let u = told_of (mgr_view c.args.pass.now) t s b in
    let m = mgr_view c.args.pass.now in
    let q = view_of c.accept.new.pass in
    let v = told_of m q s b in
    let left = c.enter.new.self in
    let w = told_of (mgr_view c.enter.new.pass) (view_of left.tallied) (seen_of left.timed)
    (g.B.Book.told left.book) in
    admits c.calls_of_runs.ensures u v w c.args.opening c.in-Done.reply c.enter.result c.in-Yes.is
    (did_count c.calls_of_runs.ensures m t q s b
    (record { call = Accept c.args.opening; reply = c.in-Done.reply }) c.in-Done.ensures.called.own)
    c.enter.ensures.did

pub returns-in-NoMemory-clause-did : goal.returns-in-NoMemory-clause-did
returns-in-NoMemory-clause-did g c =
    let was = c.args.self.now in
    let t = view_of was.tallied in
    let s = seen_of was.timed in
    let b = g.B.Book.told was.book in
    let u = told_of (mgr_view c.args.pass.now) t s b in
    let m = mgr_view c.args.pass.now in
    let q = view_of c.accept.new.pass in
    let v = told_of m q s b in
    ran_as u v c.after.result _ (IsAdmitting c.args.opening) c.after.ensures
    (admits_none c.args.opening u v c.in-Done.reply c.in-NoMemory.is (did_count c.calls_of_runs.ensures m t q
    s b (record { call = Accept c.args.opening; reply = c.in-Done.reply }) c.in-Done.ensures.called.own))

pub returns-in-Spent-clause-did : goal.returns-in-Spent-clause-did
returns-in-Spent-clause-did g c =
    let was = c.args.self.now in
    let t = view_of was.tallied in
    let s = seen_of was.timed in
    let b = g.B.Book.told was.book in
    let u = told_of (mgr_view c.args.pass.now) t s b in
    let m = mgr_view c.args.pass.now in
    let q = view_of c.accept.new.pass in
    let v = told_of m q s b in
    ran_as u v c.after-in-Spent.result _ (IsAdmitting c.args.opening) c.after-in-Spent.ensures
    (admits_spent c.args.opening u v
    (did_no_count c.calls_of_runs.ensures m t q s b c.in-Spent.ensures.called.own))
