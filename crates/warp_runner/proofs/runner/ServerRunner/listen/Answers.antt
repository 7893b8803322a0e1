use Rattle.std.proofs.Common.{refl, ap, ◌∙◌, inl, inr}
use Rattle.std.specs.Prelude.{Some, None}
use Rattle.turn_cell.specs.Calls.{view_of}
use Rattle.event_mgr.specs.Manager.{mgr_view}
use Rattle.timeout_mgr.specs.Calls.{view_of as seen_of}
use Rattle.warp_runner.specs.Acts.{told_of}
use Rattle.warp_runner.proofs.AcceptLemmas.{listens_link, listens_again, listens_failed}
use Rattle.outside.specs.Counts.{more_by_one}
use Rattle.warp_runner.proofs.runner.ServerRunner.listen.Goals as goal

pub returns-in-Accepted-clause-did : goal.returns-in-Accepted-clause-did
returns-in-Accepted-clause-did g c =
    let was = c.args.self.now in
    let t = view_of was.tallied in
    let s = seen_of was.timed in
    let b = g.B.Book.told was.book in
    let u = told_of (mgr_view c.args.pass.now) t s b in
    let left = c.take_link.new.self in
    let w = told_of (mgr_view c.take_link.new.pass) (view_of left.tallied) (seen_of left.timed)
    (g.B.Book.told left.book) in
    let h = c.args.listening.value in
    let k = c.accept.new.self in
    let l = c.in-Accepted.ensures.listened in
    let e = c.deref_mut.ensures.value in
    listens_link was.limit h k c.args.marks u w c.take_link.result (l.opening ∙ ap (λ y. y.opening) e)
    (l.accepted ∙ ap (λ y. more_by_one y.accepted) e) c.take_link.ensures.did

pub returns-in-NotYet-clause-did : goal.returns-in-NotYet-clause-did
returns-in-NotYet-clause-did g c =
    let was = c.args.self.now in
    let t = view_of was.tallied in
    let s = seen_of was.timed in
    let b = g.B.Book.told was.book in
    let u = told_of (mgr_view c.args.pass.now) t s b in
    let left = c.listen_again.new.self in
    let w = told_of (mgr_view c.listen_again.new.pass) (view_of left.tallied) (seen_of left.timed)
    (g.B.Book.told left.book) in
    let h = c.args.listening.value in
    let k = c.accept.new.self in
    let l = c.in-NotYet.ensures.listened in
    let e = c.deref_mut.ensures.value in
    listens_again was.limit h k c.args.marks u w c.listen_again.result (l.opening ∙ ap (λ y. y.opening) e)
    (Some c.args.marks.read) (inl refl) (l.accepted ∙ ap (λ y. y.accepted) e) c.listen_again.ensures.did

pub returns-in-NoMemory-clause-did : goal.returns-in-NoMemory-clause-did
returns-in-NoMemory-clause-did g c =
    let was = c.args.self.now in
    let t = view_of was.tallied in
    let s = seen_of was.timed in
    let b = g.B.Book.told was.book in
    let u = told_of (mgr_view c.args.pass.now) t s b in
    let left = c.listen_again-in-NoMemory.new.self in
    let w = told_of (mgr_view c.listen_again-in-NoMemory.new.pass) (view_of left.tallied)
    (seen_of left.timed) (g.B.Book.told left.book) in
    let h = c.args.listening.value in
    let k = c.accept.new.self in
    let l = c.in-NoMemory.ensures.listened in
    let e = c.deref_mut.ensures.value in
    listens_again was.limit h k c.args.marks u w c.listen_again-in-NoMemory.result
    (l.opening ∙ ap (λ y. y.opening) e) None (inr refl)
    (l.accepted ∙ ap (λ y. y.accepted) e) c.listen_again-in-NoMemory.ensures.did

pub returns-in-Failed-clause-did : goal.returns-in-Failed-clause-did
returns-in-Failed-clause-did g c =
    let was = c.args.self.now in
    let t = view_of was.tallied in
    let s = seen_of was.timed in
    let b = g.B.Book.told was.book in
    let u = told_of (mgr_view c.args.pass.now) t s b in
    let left = c.go_on_failed.new.self in
    let w = told_of (mgr_view c.go_on_failed.new.pass) (view_of left.tallied) (seen_of left.timed)
    (g.B.Book.told left.book) in
    let h = c.args.listening.value in
    let k = c.accept.new.self in
    let l = c.in-Failed.ensures.listened in
    let e = c.deref_mut.ensures.value in
    listens_failed was.limit h k c.args.marks u w c.go_on_failed.result (l.opening ∙ ap (λ y. y.opening) e)
    (l.accepted ∙ ap (λ y. y.accepted) e) c.go_on_failed.ensures.did
