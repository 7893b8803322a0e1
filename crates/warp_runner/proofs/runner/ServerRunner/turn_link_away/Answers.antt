use Rattle.turn_cell.specs.Calls.{view_of}
use Rattle.timeout_mgr.specs.Calls.{view_of as seen_of}
use Rattle.warp_runner.proofs.AcceptLemmas.{turns_away, turns_none}
use Rattle.warp_runner.proofs.runner.ServerRunner.turn_link_away.Goals as goal

pub returns-in-Done-clause-did : goal.returns-in-Done-clause-did
returns-in-Done-clause-did g c =
    let was = c.args.self.now in
    let t = view_of was.tallied in
    let s = seen_of was.timed in
    let b = g.B.Book.told was.book in
    turns_away c.calls_of_runs.ensures t (view_of c.turn_away.new.pass) s b c.named.result
    c.in-Done.field-0 c.named.ensures c.in-Done.ensures.called.own

pub returns-in-Spent-clause-did : goal.returns-in-Spent-clause-did
returns-in-Spent-clause-did g c =
    let was = c.args.self.now in
    let t = view_of was.tallied in
    let s = seen_of was.timed in
    let b = g.B.Book.told was.book in
    turns_none c.calls_of_runs.ensures t
    (view_of c.turn_away.new.pass) s b c.after.result c.after.ensures c.in-Spent.ensures.called.own
