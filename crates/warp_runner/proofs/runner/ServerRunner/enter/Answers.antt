use Rattle.conn_loop.specs.declared.step.End.TheVariants.{NoMemory}
use Rattle.warp_books.specs.declared.finish.Finish.TheVariants.{Ended}
use Rattle.timeout_mgr.specs.declared.view.TimeCall.TheVariants.{Add}
use Rattle.timeout_mgr.specs.declared.view.AddOutcome.TheVariants as Adds
use Rattle.reg_keys.specs.declared.registration.Dir.TheVariants as Dirs
use Rattle.warp_jobs.specs.Held.{Held}
use Rattle.warp_runner.specs.Deeds.{IsRegistering}
use Rattle.warp_runner.proofs.Registering.{RanSo, EndedSo}
use Rattle.std.proofs.Common.{[], ◌∷◌, refl, ◌∙◌, subst, inr}
use Rattle.std.specs.Prelude.{None}
use Rattle.turn_cell.specs.Calls.{view_of}
use Rattle.event_mgr.specs.Manager.{mgr_view}
use Rattle.timeout_mgr.specs.Calls.{name_of_watch, view_of as seen_of}
use Rattle.warp_runner.specs.Acts.{told_of}
use Rattle.warp_runner.proofs.Doing.{did_watch}
use Rattle.warp_runner.proofs.Registering.{ran_as}
use Rattle.warp_runner.proofs.AcceptLemmas.{enters_unmade, enters_unwatched, enters_unboxed, enters_on}
use Rattle.warp_runner.specs.Deeds.{IsEntering}
use Rattle.warp_runner.proofs.runner.ServerRunner.enter.Goals as goal

pub returns-in-Some-clause-did : goal.returns-in-Some-clause-did
returns-in-Some-clause-did g c =
    let was = c.args.self.now in
    let t = view_of was.tallied in
    let s = seen_of was.timed in
    let b = g.B.Book.told was.book in
    let u = told_of (mgr_view c.args.pass.now) t s b in
    let left = c.refuse.new.self in
    let w = told_of (mgr_view c.refuse.new.pass) (view_of left.tallied) (seen_of left.timed)
    (g.B.Book.told left.book) in
    ran_as u w c.after.result _ (IsEntering c.args.opening) c.after.ensures
    (enters_unmade c.args.opening (g.P.Link.Link.told c.add.new.link) u w c.in-Some.end
    c.refuse.result c.in-Some.ensures c.refuse.ensures.did)

pub returns-in_default-new-clause-did : goal.returns-in_default-new-clause-did
returns-in_default-new-clause-did g c =
    let was = c.args.self.now in
    let t = view_of was.tallied in
    let s = seen_of was.timed in
    let b = g.B.Book.told was.book in
    let u = told_of (mgr_view c.args.pass.now) t s b in
    let left = c.refuse-in_default-new.new.self in
    let w = told_of (mgr_view c.refuse-in_default-new.new.pass) (view_of left.tallied)
    (seen_of left.timed) (g.B.Book.told left.book) in
    ran_as u w c.after-in_default-new.result _ (IsEntering c.args.opening) c.after-in_default-new.ensures
    (enters_unmade c.args.opening (g.P.Link.Link.told c.add.new.link) u w
    (Ended NoMemory) c.refuse-in_default-new.result (inr refl) c.refuse-in_default-new.ensures.did)

pub returns-in_default-add-clause-did : goal.returns-in_default-add-clause-did
returns-in_default-add-clause-did g c =
    let was = c.args.self.now in
    let t = view_of was.tallied in
    let s = seen_of was.timed in
    let b = g.B.Book.told was.book in
    let u = told_of (mgr_view c.args.pass.now) t s b in
    let m = mgr_view c.args.pass.now in
    let q = seen_of c.add-2.new.pass in
    let v = told_of m t q b in
    let left = c.refuse-in_default-add.new.self in
    let w = told_of (mgr_view c.refuse-in_default-add.new.pass) (view_of left.tallied)
    (seen_of left.timed) (g.B.Book.told left.book) in
    let did = did_watch c.calls_of_runs.ensures m t s q b
    (Add c.args.opening Adds.Full ∷ []) c.in_default-add.ensures.adds.3.call in
    ran_as u w c.after-in_default-add.result _ (IsEntering c.args.opening) c.after-in_default-add.ensures
    (enters_unwatched c.args.opening (g.P.Link.Link.told c.add.new.link) u w c.calls_of_runs.ensures
    v c.refuse-in_default-add.result did c.refuse-in_default-add.ensures.did)

pub returns-in-Ok-new-clause-did : goal.returns-in-Ok-new-clause-did
returns-in-Ok-new-clause-did g c =
    let was = c.args.self.now in
    let t = view_of was.tallied in
    let s = seen_of was.timed in
    let b = g.B.Book.told was.book in
    let u = told_of (mgr_view c.args.pass.now) t s b in
    let m = mgr_view c.args.pass.now in
    let q = seen_of c.add-2.new.pass in
    let v = told_of m t q b in
    let n = name_of_watch c.in-Added.watch in
    let did = did_watch c.calls_of_runs.ensures m t s q b
    (Add c.args.opening (Adds.Added n) ∷ []) c.in-Added.ensures.adds.call in
    let left = c.register.new.self in
    let w = told_of (mgr_view c.register.new.pass) (view_of left.tallied) (seen_of left.timed)
    (g.B.Book.told left.book) in
    let is = c.in-Ok-new.ensures.ok ∙ c.new-2.ensures in
    enters_on c.args.opening
    (g.P.Link.Link.told c.add.new.link) u w c.calls_of_runs.ensures v n did c.register.result
    (subst (λ (h : Held). RanSo v c.register.result w (IsRegistering h Dirs.Read None))
    is c.register.ensures.did)

pub returns-in-Err-clause-did : goal.returns-in-Err-clause-did
returns-in-Err-clause-did g c =
    let was = c.args.self.now in
    let t = view_of was.tallied in
    let s = seen_of was.timed in
    let b = g.B.Book.told was.book in
    let u = told_of (mgr_view c.args.pass.now) t s b in
    let m = mgr_view c.args.pass.now in
    let q = seen_of c.add-2.new.pass in
    let v = told_of m t q b in
    let n = name_of_watch c.in-Added.watch in
    let did = did_watch c.calls_of_runs.ensures m t s q b
    (Add c.args.opening (Adds.Added n) ∷ []) c.in-Added.ensures.adds.call in
    let left = c.end.new.self in
    let w =
    told_of (mgr_view c.end.new.pass) (view_of left.tallied) (seen_of left.timed) (g.B.Book.told left.book) in
    let is = c.in-Err.ensures.value_returned ∙ c.new-2.ensures in
    ran_as u w c.after-in-Err.result _ (IsEntering c.args.opening) c.after-in-Err.ensures
    (enters_unboxed c.args.opening
    (g.P.Link.Link.told c.add.new.link) u w c.calls_of_runs.ensures v n did c.end.result
    (subst (λ (h : Held). EndedSo v c.end.result w h (Ended NoMemory)) is c.end.ensures.did))
