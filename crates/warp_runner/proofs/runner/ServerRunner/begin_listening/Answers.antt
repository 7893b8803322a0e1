use Rattle.dispatcher.specs.Runs.{HasMadeCalls}
use Rattle.warp_runner.proofs.AcceptLemmas.{names_none}
use Rattle.std.proofs.Common.{sym, ap, ◌∙◌, subst}
use Rattle.std.specs.Prelude.{ℕ, Option, Some, None}
use Rattle.turn_cell.specs.Calls.{view_of}
use Rattle.event_mgr.specs.Manager.{mgr_view}
use Rattle.timeout_mgr.specs.Calls.{view_of as seen_of}
use Rattle.warp_runner.specs.Acts.{told_of}
use Rattle.warp_runner.proofs.Running.{start_fits}
use Rattle.warp_runner.specs.Journal.{FitsUntil}
use Rattle.warp_runner.specs.Runs.{named}
use Rattle.warp_runner.proofs.runner.ServerRunner.begin_listening.Goals as goal

pub returns-in-None-clause-fits : goal.returns-in-None-clause-fits
returns-in-None-clause-fits g c =
    let was = c.args.self.now in
    let t = view_of was.tallied in
    let s = seen_of was.timed in
    let b = g.B.Book.told was.book in
    let u = told_of (mgr_view c.args.pass.now) t s b in
    let left = c.start-ran.new.self in
    let w = told_of (mgr_view c.start-ran.new.pass) (view_of left.tallied) (seen_of left.timed)
    (g.B.Book.told left.book) in
    let d = c.start-ran.ensures.did in
    λ jobs fits. subst (λ n. FitsUntil n None w jobs) (sym c.start-ran.ensures.same.1)
    (subst (λ (o : Option ℕ). FitsUntil was.limit o w jobs) c.in-None.is
    (start_fits was.limit u w jobs d.0 c.start-ran.result.stopped (named c.start-ran.result) d.1
    (g.P.Listener.Listener.told c.args.listener) d.2 fits))

pub returns-in-Some-clause-fits : goal.returns-in-Some-clause-fits
returns-in-Some-clause-fits g c =
    let was = c.args.self.now in
    let t = view_of was.tallied in
    let s = seen_of was.timed in
    let b = g.B.Book.told was.book in
    let u = told_of (mgr_view c.args.pass.now) t s b in
    let left = c.start-ran.new.self in
    let w = told_of (mgr_view c.start-ran.new.pass) (view_of left.tallied) (seen_of left.timed)
    (g.B.Book.told left.book) in
    let d = c.start-ran.ensures.did in
    λ jobs fits. subst (λ n. FitsUntil n (Some c.in-Some.code) w jobs) (sym c.start-ran.ensures.same.1)
    (subst (λ (o : Option ℕ). FitsUntil was.limit o w jobs) c.in-Some.is
    (start_fits was.limit u w jobs d.0 c.start-ran.result.stopped (named c.start-ran.result) d.1
    (g.P.Listener.Listener.told c.args.listener) d.2 fits))

pub returns-in-Some-clause-made : goal.returns-in-Some-clause-made
returns-in-Some-clause-made g c =
    let was = c.args.self.now in
    let t = view_of was.tallied in
    let s = seen_of was.timed in
    let b = g.B.Book.told was.book in
    let u = told_of (mgr_view c.args.pass.now) t s b in
    let left = c.start-ran.new.self in
    let w = told_of (mgr_view c.start-ran.new.pass) (view_of left.tallied) (seen_of left.timed)
    (g.B.Book.told left.book) in
    let d = c.start-ran.ensures.did in
    subst (λ l. HasMadeCalls u.mgr l w.mgr)
    (names_none c.start-ran.result c.start-ran.ensures.one c.in-Some.code c.in-Some.is) d.1.made

pub returns-in-Some-clause-faulted : goal.returns-in-Some-clause-faulted
returns-in-Some-clause-faulted g c = λ e. c.start-ran.ensures.faulted (c.in-Some.is ∙ ap (λ n. Some n) e)
