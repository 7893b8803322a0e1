use Rattle.turn_cell.specs.Calls.{view_of}
use Rattle.event_mgr.specs.Manager.{mgr_view}
use Rattle.timeout_mgr.specs.Calls.{view_of as seen_of}
use Rattle.warp_runner.specs.Deeds.{finished_held}
use Rattle.warp_runner.proofs.EndingLemmas.{ends, ends_at_once}
use Rattle.warp_runner.proofs.runner.ServerRunner.end.Goals as goal

pub returns-in-Ok-clause-did : goal.returns-in-Ok-clause-did
returns-in-Ok-clause-did g c =
    let was = c.args.self.now in
    let left = c.part.new.self in
    ends c.calls_of_runs.ensures (mgr_view c.args.pass.now) (mgr_view c.close.new.pass) (view_of was.tallied)
    (view_of left.tallied) (seen_of was.timed) (seen_of left.timed)
    (g.B.Book.told was.book) (g.B.Book.told left.book) c.opening-opening.result c.args.session.watch
    (finished_held c.args.session c.args.end) c.part.result
    c.opening-opening.ensures c.in-Ok.ensures.closed c.part.ensures.did

pub returns-in-Err-clause-did : goal.returns-in-Err-clause-did
returns-in-Err-clause-did g c =
    let was = c.args.self.now in
    ends_at_once (mgr_view c.args.pass.now) (mgr_view c.close.new.pass) (view_of was.tallied)
    (seen_of was.timed) (g.B.Book.told was.book)
    c.args.session.watch (finished_held c.args.session c.args.end) c.in-Err.ensures.closed
