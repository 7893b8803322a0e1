use Rattle.std.proofs.Common.{map}
use Rattle.turn_cell.specs.Calls.{view_of}
use Rattle.event_mgr.specs.Manager.{mgr_view}
use Rattle.timeout_mgr.specs.Calls.{view_of as seen_of}
use Rattle.stripe_table.specs.Calls.{shut_key}
use Rattle.warp_jobs.specs.Tags.{tag_of}
use Rattle.warp_runner.specs.Acts.{told_of}
use Rattle.warp_runner.proofs.Doing.{did_shut_these, did_find_closed, did_close_spent}
use Rattle.warp_runner.proofs.TimingOut.{times_out_shut, times_out_not_open, times_out_spent}
use Rattle.warp_runner.proofs.runner.ServerRunner.time_out.Goals as goal

pub returns-in-Shut-clause-did : goal.returns-in-Shut-clause-did
returns-in-Shut-clause-did g c =
    let was = c.args.self.now in
    let t = view_of was.tallied in
    let s = seen_of was.timed in
    let b = g.B.Book.told was.book in
    let u = told_of (mgr_view c.args.pass.now) t s b in
    let v = told_of (mgr_view c.close_fd.new.pass) t s b in
    let left = c.let_go_all.new.self in
    let w = told_of (mgr_view c.close_fd.new.pass) (view_of left.tallied) (seen_of left.timed)
    (g.B.Book.told left.book) in
    let d = c.let_go_all.ensures.did in
    times_out_shut c.calls_of_runs.ensures u v w c.let_go_all.result c.args.opening
    (map (shut_key (λ job. tag_of job)) c.in-Shut.list)
    ((did_shut_these (λ job. tag_of job) c.calls_of_runs.ensures c.calls_weigh.ensures c.args.opening
    (mgr_view c.args.pass.now) (mgr_view c.close_fd.new.pass) c.in-Shut.list c.in-Shut.ensures.step) t s b)
    (d.0, d.1 (mgr_view c.close_fd.new.pass), d.2)

pub returns-in-NotOpen-clause-did : goal.returns-in-NotOpen-clause-did
returns-in-NotOpen-clause-did g c =
    let was = c.args.self.now in
    let t = view_of was.tallied in
    let s = seen_of was.timed in
    let b = g.B.Book.told was.book in
    let u = told_of (mgr_view c.args.pass.now) t s b in
    let v = told_of (mgr_view c.close_fd.new.pass) t s b in
    times_out_not_open c.args.opening u v
    ((did_find_closed (λ job. tag_of job) c.calls_of_runs.ensures c.calls_weigh.ensures c.args.opening
    (mgr_view c.args.pass.now) (mgr_view c.close_fd.new.pass) c.in-NotOpen.ensures.step) t s b)

pub returns-in-Spent-clause-did : goal.returns-in-Spent-clause-did
returns-in-Spent-clause-did g c =
    let was = c.args.self.now in
    let t = view_of was.tallied in
    let s = seen_of was.timed in
    let b = g.B.Book.told was.book in
    let u = told_of (mgr_view c.args.pass.now) t s b in
    let v = told_of (mgr_view c.close_fd.new.pass) t s b in
    times_out_spent c.args.opening u v
    (did_close_spent (λ job. tag_of job) c.calls_of_runs.ensures c.calls_weigh.ensures c.args.opening
    (mgr_view c.args.pass.now) (mgr_view c.close_fd.new.pass) c.in-Spent.ensures.step t s b)
