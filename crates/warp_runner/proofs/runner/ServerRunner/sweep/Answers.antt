use Rattle.std.proofs.Common.{[], ◌∷◌, sym, subst}
use Rattle.turn_cell.specs.Calls.{view_of}
use Rattle.event_mgr.specs.Manager.{mgr_view}
use Rattle.timeout_mgr.specs.Calls.{view_of as seen_of}
use Rattle.warp_runner.specs.Acts.{told_of}
use Rattle.warp_runner.proofs.Doing.{did_watch}
use Rattle.warp_runner.proofs.Running.{sweep_fits, sweep_stops}
use Rattle.warp_runner.specs.SweepLaws.{swept_once}
use Rattle.warp_runner.proofs.TimingOut.{sweeps_so}
use Rattle.timeout_mgr.specs.declared.view.TimeCall.TheVariants.{Sweep}
use Rattle.warp_runner.specs.Journal.{FitsUntil}
use Rattle.warp_runner.proofs.runner.ServerRunner.sweep.Goals as goal

pub returns-clause-fits : goal.returns-clause-fits
returns-clause-fits g c =
    let was = c.args.self.now in
    let t = view_of was.tallied in
    let s = seen_of was.timed in
    let b = g.B.Book.told was.book in
    let u = told_of (mgr_view c.args.pass.now) t s b in
    let q = seen_of c.sweep.new.pass in
    let v = told_of (mgr_view c.args.pass.now) t q b in
    let left = c.time_out_all.new.self in
    let w = told_of (mgr_view c.time_out_all.new.pass) (view_of left.tallied) (seen_of left.timed)
    (g.B.Book.told left.book) in
    let given = c.sweep.new.out in
    let did = did_watch c.calls_of_runs.ensures (mgr_view c.args.pass.now) t s q b
    (Sweep given ∷ []) c.sweep.ensures.sweeps.call in
    let r =
    sweeps_so c.calls_of_runs.ensures u v w c.time_out_all.result given did c.time_out_all.ensures.did in
    λ stop jobs fits.
    subst (λ n. FitsUntil n stop w jobs) (sym c.time_out_all.ensures.same.1)
    (sweep_fits was.limit u w jobs r.0 c.time_out_all.result [] r.1 r.2 stop fits)

pub returns-clause-stops : goal.returns-clause-stops
returns-clause-stops g c =
    let was = c.args.self.now in
    let t = view_of was.tallied in
    let s = seen_of was.timed in
    let b = g.B.Book.told was.book in
    let u = told_of (mgr_view c.args.pass.now) t s b in
    let q = seen_of c.sweep.new.pass in
    let v = told_of (mgr_view c.args.pass.now) t q b in
    let left = c.time_out_all.new.self in
    let w = told_of (mgr_view c.time_out_all.new.pass) (view_of left.tallied) (seen_of left.timed)
    (g.B.Book.told left.book) in
    let given = c.sweep.new.out in
    let did = did_watch c.calls_of_runs.ensures (mgr_view c.args.pass.now) t s q b
    (Sweep given ∷ []) c.sweep.ensures.sweeps.call in
    let r =
    sweeps_so c.calls_of_runs.ensures u v w c.time_out_all.result given did c.time_out_all.ensures.did in
    λ jobs fits.
    subst (λ n. FitsUntil n c.time_out_all.result w jobs) (sym c.time_out_all.ensures.same.1)
    (sweep_stops was.limit u w jobs r.0 c.time_out_all.result [] r.1 r.2 fits)

pub returns-clause-swept : goal.returns-clause-swept
returns-clause-swept g c =
    let was = c.args.self.now in
    let t = view_of was.tallied in
    let s = seen_of was.timed in
    let b = g.B.Book.told was.book in
    let u = told_of (mgr_view c.args.pass.now) t s b in
    let q = seen_of c.sweep.new.pass in
    let v = told_of (mgr_view c.args.pass.now) t q b in
    let left = c.time_out_all.new.self in
    let w = told_of (mgr_view c.time_out_all.new.pass) (view_of left.tallied) (seen_of left.timed)
    (g.B.Book.told left.book) in
    let given = c.sweep.new.out in
    let did = did_watch c.calls_of_runs.ensures (mgr_view c.args.pass.now) t s q b
    (Sweep given ∷ []) c.sweep.ensures.sweeps.call in
    let r =
    sweeps_so c.calls_of_runs.ensures u v w c.time_out_all.result given did c.time_out_all.ensures.did in
    swept_once u.timed w.timed r.0 c.time_out_all.result r.2 r.1.timed
