use Rattle.warp_runner.specs.Deeds.{IsGoingOn}
use Rattle.warp_runner.proofs.Registering.{RanSo}
use Rattle.std.proofs.Common.{subst}
use Rattle.turn_cell.specs.Calls.{view_of}
use Rattle.event_mgr.specs.Manager.{mgr_view}
use Rattle.timeout_mgr.specs.Calls.{view_of as seen_of}
use Rattle.warp_runner.specs.Acts.{told_of}
use Rattle.warp_runner.proofs.AcceptLemmas.{takes_on, takes_stopped}
use Rattle.warp_runner.proofs.runner.ServerRunner.take_link.Goals as goal

pub returns-in-Some-clause-did : goal.returns-in-Some-clause-did
returns-in-Some-clause-did g c =
    let was = c.args.self.now in
    let t = view_of was.tallied in
    let s = seen_of was.timed in
    let b = g.B.Book.told was.book in
    let u = told_of (mgr_view c.args.pass.now) t s b in
    let left = c.begin-begun.new.self in
    let w = told_of (mgr_view c.begin-begun.new.pass) (view_of left.tallied) (seen_of left.timed)
    (g.B.Book.told left.book) in
    takes_stopped was.limit c.args.listening.value u w c.begin-begun.result c.in-Some.field-0
    c.in-Some.is c.begin-begun.ensures.did

pub returns-in-None-clause-did : goal.returns-in-None-clause-did
returns-in-None-clause-did g c =
    let was = c.args.self.now in
    let t = view_of was.tallied in
    let s = seen_of was.timed in
    let b = g.B.Book.told was.book in
    let u = told_of (mgr_view c.args.pass.now) t s b in
    let left = c.begin-begun.new.self in
    let v = told_of (mgr_view c.begin-begun.new.pass) (view_of left.tallied) (seen_of left.timed)
    (g.B.Book.told left.book) in
    let last = c.go_on-gone_on.new.self in
    let w = told_of (mgr_view c.go_on-gone_on.new.pass) (view_of last.tallied) (seen_of last.timed)
    (g.B.Book.told last.book) in
    let x = c.begin-begun.result in
    let y = c.go_on-gone_on.result in
    let k = c.args.listening.value in
    takes_on c.calls_of_runs.ensures was.limit k u v w x y c.begin-begun.ensures.one.0
    c.go_on-gone_on.ensures.one.0 c.in-None.is c.begin-begun.ensures.did
    (subst (λ n. RanSo v y w (IsGoingOn n k)) c.begin-begun.ensures.same.1 c.go_on-gone_on.ensures.did)
