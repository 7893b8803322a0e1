use Rattle.std.proofs.Common.{ap, ◌∙◌, inl, inr, ⊎_elim}
use Rattle.turn_cell.specs.Calls.{view_of}
use Rattle.event_mgr.specs.Manager.{mgr_view}
use Rattle.timeout_mgr.specs.Calls.{view_of as seen_of}
use Rattle.warp_runner.specs.Acts.{told_of}
use Rattle.warp_runner.specs.Deeds.{IsRegistering}
use Rattle.warp_runner.specs.Runs.{held_in}
use Rattle.warp_runner.proofs.Registering.{held_same, ran_as, registers_waits, registers_spent}
use Rattle.warp_runner.proofs.Registering.{registers_crowded, registers_shut}
use Rattle.warp_runner.proofs.runner.ServerRunner.register.Goals as goal

pub returns-in-Waits-clause-did : goal.returns-in-Waits-clause-did
returns-in-Waits-clause-did g c =
    let was = c.args.self.now in
    let t = view_of was.tallied in
    let s = seen_of was.timed in
    let b = g.B.Book.told was.book in
    let u = told_of (mgr_view c.args.pass.now) t s b in
    let w = told_of (mgr_view c.register.new.pass) t s b in
    let h = c.args.session.value in
    let same = c.opening-opening.ensures ∙ ap (λ x. x.opening) c.deref.ensures in
    let did = c.in-Waits.ensures.registered in
    ran_as u w c.named.result _ (IsRegistering h c.args.dir c.args.mark) c.named.ensures
    (registers_waits h c.args.dir c.args.mark u w c.opening-opening.result c.in-Waits.event same
    (did.0, did.1 t s b))

pub returns-in-Crowded-clause-did : goal.returns-in-Crowded-clause-did
returns-in-Crowded-clause-did g c =
    let was = c.args.self.now in
    let left = c.end.new.self in
    let t = view_of was.tallied in
    let s = seen_of was.timed in
    let b = g.B.Book.told was.book in
    let u = told_of (mgr_view c.args.pass.now) t s b in
    let v = told_of (mgr_view c.register.new.pass) t s b in
    let w =
    told_of (mgr_view c.end.new.pass) (view_of left.tallied) (seen_of left.timed) (g.B.Book.told left.book) in
    let h = c.args.session.value in
    let same = c.opening-opening.ensures ∙ ap (λ x. x.opening) c.deref.ensures in
    let did = c.in-Crowded.ensures.registered in
    let is = c.into_inner-session.ensures
    ∙ held_same (held_in c.in-Crowded.back) c.session_of.result.value h c.session_of.ensures
    (ap (λ j. held_in j) did.0) in
    ran_as u w c.after.result _ (IsRegistering h c.args.dir c.args.mark) c.after.ensures
    (registers_crowded c.calls_of_runs.ensures h c.args.dir c.args.mark u v w c.opening-opening.result
    c.into_inner-session.result c.end.result same is (did.1 t s b) c.end.ensures.did)

pub returns-in-Shut-clause-did : goal.returns-in-Shut-clause-did
returns-in-Shut-clause-did g c =
    let was = c.args.self.now in
    let alive = c.is_alive.new.self in
    let left = c.end-in-Shut.new.self in
    let t = view_of was.tallied in
    let s = seen_of was.timed in
    let b = g.B.Book.told was.book in
    let u = told_of (mgr_view c.args.pass.now) t s b in
    let v = told_of (mgr_view c.register.new.pass) t s b in
    let x = told_of (mgr_view c.register.new.pass) (view_of alive.tallied) (seen_of alive.timed)
    (g.B.Book.told alive.book) in
    let w = told_of (mgr_view c.end-in-Shut.new.pass) (view_of left.tallied) (seen_of left.timed)
    (g.B.Book.told left.book) in
    let h = c.args.session.value in
    let same = c.opening-opening.ensures ∙ ap (λ x. x.opening) c.deref.ensures in
    let did = c.in-Shut.ensures.registered in
    let is = c.into_inner-session-in-Shut.ensures
    ∙ held_same (held_in c.in-Shut.back) c.session_of-in-Shut.result.value h c.session_of-in-Shut.ensures
    (ap (λ j. held_in j) did.0) in
    ran_as u w c.after-in-Shut.result _ (IsRegistering h c.args.dir c.args.mark) c.after-in-Shut.ensures
    (registers_shut c.calls_of_runs.ensures h c.args.dir c.args.mark u v w x c.opening-opening.result
    c.into_inner-session-in-Shut.result c.is_alive.result c.end_of_shut-end.result c.end-in-Shut.result
    same is (did.1 t s b) (c.is_alive.ensures.did (mgr_view c.register.new.pass))
    c.end_of_shut-end.ensures c.end-in-Shut.ensures.did)

pub returns-in-Spent-clause-did : goal.returns-in-Spent-clause-did
returns-in-Spent-clause-did g c =
    let was = c.args.self.now in
    let t = view_of was.tallied in
    let s = seen_of was.timed in
    let b = g.B.Book.told was.book in
    let u = told_of (mgr_view c.args.pass.now) t s b in
    let w = told_of (mgr_view c.register.new.pass) t s b in
    let h = c.args.session.value in
    let same = c.opening-opening.ensures ∙ ap (λ x. x.opening) c.deref.ensures in
    ran_as u w c.after-in-Spent.result _ (IsRegistering h c.args.dir c.args.mark) c.after-in-Spent.ensures
    (registers_spent h c.args.dir c.args.mark u w c.opening-opening.result same
    (⊎_elim (λ d. inl (d t s b)) (λ d. inr (d t s b)) c.in-Spent.ensures.registered))
