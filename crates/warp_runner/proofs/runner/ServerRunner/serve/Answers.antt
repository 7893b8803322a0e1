use Rattle.std.proofs.Common.{◌+◌, [], ◌∷◌, true, false, ap, ◌∙◌, subst, sym}
use Rattle.std.specs.Prelude.{Some}
use Rattle.turn_cell.specs.Calls.{view_of}
use Rattle.event_mgr.specs.Manager.{mgr_view}
use Rattle.timeout_mgr.specs.Calls.{view_of as seen_of}
use Rattle.timeout_mgr.specs.declared.view.TimeCall.TheVariants.{Tickle}
use Rattle.warp_books.specs.declared.finish.Finish.TheVariants.{Ended, TimedOut}
use Rattle.warp_jobs.specs.Held.{Held}
use Rattle.warp_runner.specs.Acts.{Did, ServeTold, told_of, watched}
use Rattle.warp_runner.specs.Asking.{HasAsked, asked_none}
use Rattle.warp_runner.specs.Deeds.{IsBroughtOn, IsConnectionRun, IsRegistering}
use Rattle.warp_runner.proofs.EndingLemmas.{told_same}
use Rattle.warp_runner.proofs.Registering.{EndedSo, RanSo, ran_as, runs_gone, runs_over, runs_on, runs_spent}
use Rattle.warp_runner.proofs.runner.ServerRunner.serve.Goals as goal

pub returns-then-not-is_alive-clause-did : goal.returns-then-not-is_alive-clause-did
returns-then-not-is_alive-clause-did g c =
    let was = c.args.self.now in
    let alive = c.is_alive.new.self in
    let m = mgr_view c.args.pass.now in
    let u = told_of m (view_of was.tallied) (seen_of was.timed) (g.B.Book.told was.book) in
    let v = told_of m (view_of alive.tallied) (seen_of alive.timed) (g.B.Book.told alive.book) in
    let h = c.args.session.value in
    let left = c.end.new.self in
    let w =
    told_of (mgr_view c.end.new.pass) (view_of left.tallied) (seen_of left.timed) (g.B.Book.told left.book) in
    let tickled = subst (λ n. Did u (watched (Tickle n false ∷ [])) [] v)
    (ap (λ y. y.watch) c.deref-3.ensures) (c.if-not-is_alive.ensures.did m) in
    let ended =
    subst (λ (y : Held). EndedSo v c.end.result w y TimedOut) c.into_inner.ensures c.end.ensures.did in
    ran_as u w c.after.result _ (IsConnectionRun h c.args.marks) c.after.ensures
    (runs_gone c.calls_of_runs.ensures h c.args.marks u v w c.end.result tickled ended)

pub returns-in-Waits-clause-did : goal.returns-in-Waits-clause-did
returns-in-Waits-clause-did g c =
    let was = c.args.self.now in
    let alive = c.is_alive.new.self in
    let m = mgr_view c.args.pass.now in
    let u = told_of m (view_of was.tallied) (seen_of was.timed) (g.B.Book.told was.book) in
    let v = told_of m (view_of alive.tallied) (seen_of alive.timed) (g.B.Book.told alive.book) in
    let h = c.args.session.value in
    let on = c.bring_on.new.self in
    let rest = c.bring_on.ensures.rest in
    let x = told_of m (view_of on.tallied) (seen_of on.timed) (g.B.Book.told on.book) in
    let k = c.bring_on.new.session in
    let same = told_same m (view_of alive.tallied) (view_of on.tallied) (seen_of alive.timed)
    (seen_of on.timed) (g.B.Book.told alive.book) (g.B.Book.told on.book)
    (ap (λ y. view_of y) rest.1) (ap (λ y. seen_of y) rest.0) (ap (λ y. g.B.Book.told y) rest.3) in
    let tickled = subst (λ (y : ServeTold). Did u (watched (Tickle h.watch true ∷ [])) [] y) same
    (subst (λ n. Did u (watched (Tickle n true ∷ [])) [] v) (ap (λ y. y.watch) c.deref-3.ensures)
    (c.if-not-is_alive.ensures.did m)) in
    let left = c.register.new.self in
    let w = told_of (mgr_view c.register.new.pass) (view_of left.tallied) (seen_of left.timed)
    (g.B.Book.told left.book) in
    let did = c.in-Waits.ensures.brought in
    let registered = subst (λ n. RanSo x c.register.result w (IsRegistering k c.in-Waits.dir (Some n)))
    c.mark_of.ensures c.register.ensures.did in
    runs_on c.calls_of_runs.ensures h c.args.marks u x w k c.in-Waits.dir c.register.result tickled
    (subst (λ (y : Held). IsBroughtOn y k) c.deref_mut.ensures.value did.0)
    (did.1 ∙ ap (λ (y : Held). y.number + 1) c.deref_mut.ensures.value) registered

pub returns-in-Over-clause-did : goal.returns-in-Over-clause-did
returns-in-Over-clause-did g c =
    let was = c.args.self.now in
    let alive = c.is_alive.new.self in
    let m = mgr_view c.args.pass.now in
    let u = told_of m (view_of was.tallied) (seen_of was.timed) (g.B.Book.told was.book) in
    let v = told_of m (view_of alive.tallied) (seen_of alive.timed) (g.B.Book.told alive.book) in
    let h = c.args.session.value in
    let on = c.bring_on.new.self in
    let rest = c.bring_on.ensures.rest in
    let x = told_of m (view_of on.tallied) (seen_of on.timed) (g.B.Book.told on.book) in
    let k = c.bring_on.new.session in
    let same = told_same m (view_of alive.tallied) (view_of on.tallied) (seen_of alive.timed)
    (seen_of on.timed) (g.B.Book.told alive.book) (g.B.Book.told on.book)
    (ap (λ y. view_of y) rest.1) (ap (λ y. seen_of y) rest.0) (ap (λ y. g.B.Book.told y) rest.3) in
    let tickled = subst (λ (y : ServeTold). Did u (watched (Tickle h.watch true ∷ [])) [] y) same
    (subst (λ n. Did u (watched (Tickle n true ∷ [])) [] v) (ap (λ y. y.watch) c.deref-3.ensures)
    (c.if-not-is_alive.ensures.did m)) in
    let left = c.end-stopped.new.self in
    let w = told_of (mgr_view c.end-stopped.new.pass) (view_of left.tallied) (seen_of left.timed)
    (g.B.Book.told left.book) in
    let did = c.in-Over.ensures.brought in
    let ended = subst (λ (y : Held). EndedSo x c.end-stopped.result w y (Ended c.in-Over.end))
    c.into_inner-in-Over.ensures c.end-stopped.ensures.did in
    ran_as u w c.after-in-Over.result _ (IsConnectionRun h c.args.marks) c.after-in-Over.ensures
    (runs_over c.calls_of_runs.ensures h c.args.marks u x w k c.in-Over.end c.end-stopped.result tickled
    (subst (λ (y : Held). IsBroughtOn y k) c.deref_mut.ensures.value did.0)
    (did.1 ∙ ap (λ (y : Held). y.number) c.deref_mut.ensures.value) ended)

pub returns-in-Spent-clause-did : goal.returns-in-Spent-clause-did
returns-in-Spent-clause-did g c =
    let was = c.args.self.now in
    let alive = c.is_alive.new.self in
    let m = mgr_view c.args.pass.now in
    let u = told_of m (view_of was.tallied) (seen_of was.timed) (g.B.Book.told was.book) in
    let v = told_of m (view_of alive.tallied) (seen_of alive.timed) (g.B.Book.told alive.book) in
    let h = c.args.session.value in
    let on = c.bring_on.new.self in
    let rest = c.bring_on.ensures.rest in
    let x = told_of m (view_of on.tallied) (seen_of on.timed) (g.B.Book.told on.book) in
    let k = c.bring_on.new.session in
    let same = told_same m (view_of alive.tallied) (view_of on.tallied) (seen_of alive.timed)
    (seen_of on.timed) (g.B.Book.told alive.book) (g.B.Book.told on.book)
    (ap (λ y. view_of y) rest.1) (ap (λ y. seen_of y) rest.0) (ap (λ y. g.B.Book.told y) rest.3) in
    let tickled = subst (λ (y : ServeTold). Did u (watched (Tickle h.watch true ∷ [])) [] y) same
    (subst (λ n. Did u (watched (Tickle n true ∷ [])) [] v) (ap (λ y. y.watch) c.deref-3.ensures)
    (c.if-not-is_alive.ensures.did m)) in
    ran_as u x c.after-in-Spent.result _ (IsConnectionRun h c.args.marks) c.after-in-Spent.ensures
    (runs_spent h c.args.marks u x tickled)

pub returns-then-not-is_alive-clause-asked : goal.returns-then-not-is_alive-clause-asked
returns-then-not-is_alive-clause-asked g c =
    subst (λ clock. HasAsked (g.C.Clock.told c.args.self.now.clock) (g.C.Clock.told clock))
    (sym (c.end.ensures.clock ∙ c.is_alive.ensures.clock)) (asked_none _)
