use Rattle.std.proofs.Common.{ap, ◌∙◌, []}
use Rattle.turn_cell.specs.Calls.{view_of}
use Rattle.event_mgr.specs.Manager.{mgr_view}
use Rattle.timeout_mgr.specs.Calls.{view_of as seen_of}
use Rattle.warp_runner.specs.Deeds.{unserved}
use Rattle.warp_runner.proofs.EndingLemmas.{ends_bare, ends_bare_at_once, finished_same}
use Rattle.warp_runner.proofs.runner.ServerRunner.refuse.Goals as goal

pub returns-in-Ok-clause-did : goal.returns-in-Ok-clause-did
returns-in-Ok-clause-did g c =
    let was = c.args.self.now in
    let left = c.hand.new.self in
    let done = c.new.result in
    ends_bare c.calls_of_runs.ensures (mgr_view c.args.pass.now) (mgr_view c.close.new.pass)
    (view_of was.tallied) (view_of left.tallied) (seen_of was.timed) (seen_of left.timed)
    (g.B.Book.told was.book) (g.B.Book.told left.book) _
    (unserved c.args.opening (g.P.Link.Link.told c.args.link) c.args.end) c.hand.result
    c.in-Ok.ensures.closed
    (finished_same done.opening c.args.opening (g.P.Link.Link.told done.link)
    (g.P.Link.Link.told c.args.link) done.moments.items [] done.bytes 0 done.waits 0 done.end c.args.end
    c.new.ensures.whose.0 (ap (λ l. g.P.Link.Link.told l) c.new.ensures.whose.1)
    (ap (λ l. l.items) c.new.ensures.whose.2 ∙ c.new-moments.ensures.items)
    c.new.ensures.numbers.0 c.new.ensures.numbers.1 c.new.ensures.numbers.2)
    c.hand.ensures.did

pub returns-in-Err-clause-did : goal.returns-in-Err-clause-did
returns-in-Err-clause-did g c =
    let was = c.args.self.now in
    ends_bare_at_once (mgr_view c.args.pass.now) (mgr_view c.close.new.pass) (view_of was.tallied)
    (seen_of was.timed) (g.B.Book.told was.book)
    (unserved c.args.opening (g.P.Link.Link.told c.args.link) c.args.end) c.in-Err.ensures.closed
