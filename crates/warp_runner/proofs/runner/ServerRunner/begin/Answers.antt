use Rattle.std.proofs.Common.{refl, inl, inr, ⊎_elim}
use Rattle.turn_cell.specs.Calls.{view_of}
use Rattle.event_mgr.specs.Manager.{mgr_view}
use Rattle.timeout_mgr.specs.Calls.{view_of as seen_of}
use Rattle.warp_runner.specs.Acts.{told_of, found_all_out, called}
use Rattle.reg_keys.specs.declared.entry.Entry.TheVariants as Entries
use Rattle.reg_keys.specs.declared.entry.OpenOutcome.TheVariants as Opens
use Rattle.warp_runner.specs.Deeds.{IsBeginning}
use Rattle.warp_runner.proofs.Registering.{ran_as}
use Rattle.warp_runner.proofs.AcceptLemmas.{begins, begins_none, begins_spent}
use Rattle.warp_runner.proofs.runner.ServerRunner.begin.Goals as goal

pub returns-in-Opened-clause-did : goal.returns-in-Opened-clause-did
returns-in-Opened-clause-did g c =
    let was = c.args.self.now in
    let t = view_of was.tallied in
    let s = seen_of was.timed in
    let b = g.B.Book.told was.book in
    let u = told_of (mgr_view c.args.pass.now) t s b in
    let v = told_of (mgr_view c.open.new.pass) t s b in
    let left = c.admit.new.self in
    let w = told_of (mgr_view c.admit.new.pass) (view_of left.tallied) (seen_of left.timed)
    (g.B.Book.told left.book) in
    begins c.calls_of_runs.ensures u v w c.in-Opened.opening c.admit.result
    (c.in-Opened.ensures.opened.0 t s b) c.admit.ensures.did

pub returns-in-Full-clause-did : goal.returns-in-Full-clause-did
returns-in-Full-clause-did g c =
    let was = c.args.self.now in
    let t = view_of was.tallied in
    let s = seen_of was.timed in
    let b = g.B.Book.told was.book in
    let u = told_of (mgr_view c.args.pass.now) t s b in
    let v = told_of (mgr_view c.open.new.pass) t s b in
    let left = c.turn_link_away.new.self in
    let w = told_of (mgr_view c.open.new.pass) (view_of left.tallied) (seen_of left.timed)
    (g.B.Book.told left.book) in
    let d = c.turn_link_away.ensures.did in
    begins_none c.calls_of_runs.ensures u v w found_all_out c.turn_link_away.result (inl refl)
    c.turn_link_away.ensures.none (c.in-Full.ensures.opened t s b) (d.0, d.1 (mgr_view c.open.new.pass), d.2)

pub returns-in-Taken-clause-did : goal.returns-in-Taken-clause-did
returns-in-Taken-clause-did g c =
    let was = c.args.self.now in
    let t = view_of was.tallied in
    let s = seen_of was.timed in
    let b = g.B.Book.told was.book in
    let u = told_of (mgr_view c.args.pass.now) t s b in
    let v = told_of (mgr_view c.open.new.pass) t s b in
    let left = c.turn_link_away-in-Taken.new.self in
    let w = told_of (mgr_view c.open.new.pass) (view_of left.tallied) (seen_of left.timed)
    (g.B.Book.told left.book) in
    let d = c.turn_link_away-in-Taken.ensures.did in
    begins_none c.calls_of_runs.ensures u v w
    (called (Entries.Open c.in-Taken.field-0.fd (Opens.Taken c.in-Taken.field-0)))
    c.turn_link_away-in-Taken.result (inr (c.in-Taken.field-0, refl)) c.turn_link_away-in-Taken.ensures.none
    (c.in-Taken.ensures.opened t s b) (d.0, d.1 (mgr_view c.open.new.pass), d.2)

pub returns-in-Spent-clause-did : goal.returns-in-Spent-clause-did
returns-in-Spent-clause-did g c =
    let was = c.args.self.now in
    let t = view_of was.tallied in
    let s = seen_of was.timed in
    let b = g.B.Book.told was.book in
    let u = told_of (mgr_view c.args.pass.now) t s b in
    let v = told_of (mgr_view c.open.new.pass) t s b in
    ran_as u v c.after.result _ IsBeginning c.after.ensures
    (begins_spent u v (⊎_elim (λ d. inl (d t s b)) (λ d. inr (d.0, d.1 t s b)) c.in-Spent.ensures.opened))
