use Rattle.std.proofs.Common.{refl}
use Rattle.turn_cell.specs.Calls.{view_of}
use Rattle.timeout_mgr.specs.Calls.{view_of as seen_of}
use Rattle.warp_jobs.specs.Sessions.{finished_as}
use Rattle.warp_runner.proofs.Handing.{hands_counted, hands_no, hands_none}
use Rattle.warp_runner.proofs.runner.ServerRunner.hand.Goals as goal

pub returns-in-Yes-clause-did : goal.returns-in-Yes-clause-did
returns-in-Yes-clause-did g c =
    hands_counted c.calls_of_runs.ensures (view_of c.args.self.now.tallied) (view_of c.finish.new.pass)
    (seen_of c.args.self.now.timed)
    (g.B.Book.told c.args.self.now.book) (g.B.Book.told c.finished.new.self)
    (finished_as c.args.done.opening (g.P.Link.Link.told c.args.done.link) c.args.done.moments.items
    c.args.done.bytes c.args.done.waits c.args.done.end)
    c.in-Done.reply c.in-Done.ensures.called c.in-Yes.is c.books_add_up.ensures c.finished.ensures

pub returns-in-No-clause-did : goal.returns-in-No-clause-did
returns-in-No-clause-did g c =
    hands_no c.calls_of_runs.ensures (view_of c.args.self.now.tallied) (view_of c.finish.new.pass)
    (seen_of c.args.self.now.timed)
    (g.B.Book.told c.args.self.now.book) (g.B.Book.told c.args.self.now.book)
    (finished_as c.args.done.opening (g.P.Link.Link.told c.args.done.link) c.args.done.moments.items
    c.args.done.bytes c.args.done.waits c.args.done.end)
    c.in-Done.reply c.in-Done.ensures.called c.in-No.is refl

pub returns-in-Spent-clause-did : goal.returns-in-Spent-clause-did
returns-in-Spent-clause-did g c =
    hands_none c.calls_of_runs.ensures (view_of c.args.self.now.tallied) (view_of c.finish.new.pass)
    (seen_of c.args.self.now.timed)
    (g.B.Book.told c.args.self.now.book) (g.B.Book.told c.args.self.now.book)
    (finished_as c.args.done.opening (g.P.Link.Link.told c.args.done.link) c.args.done.moments.items
    c.args.done.bytes c.args.done.waits c.args.done.end)
    c.in-Spent.ensures.called refl
