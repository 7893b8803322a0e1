use Rattle.std.proofs.Common.{ℕ, [], refl, subst, arith}
use Rattle.std.specs.Prelude.{Option}
use Rattle.turn_cell.specs.Calls.{view_of}
use Rattle.event_mgr.specs.Manager.{mgr_view}
use Rattle.timeout_mgr.specs.Calls.{view_of as seen_of}
use Rattle.warp_runner.specs.Acts.{told_of}
use Rattle.warp_runner.specs.Journal.{FitsUntil}
use Rattle.warp_core.specs.Rows.{known_by, stop_in}
use Rattle.warp_core.proofs.Keeping.{keeps_silent}
use Rattle.warp_core.proofs.Serving.{cells_of, goes_aside, made_grown, serves_on}
use Rattle.warp_core.proofs.beat.sweep.Goals as goal

pub returns-in-Some-clause-serves : goal.returns-in-Some-clause-serves
returns-in-Some-clause-serves g c =
    let x = c.args.row.now in
    let e = c.sweep.ensures in
    let y = record x { disp = record x.disp { mgr = c.sweep.new.pass }; runner = c.sweep.new.self } in
    let polls = e.stays.1.same_faults in
    serves_on g.B.Book.told g.P.Poller.meaning.faults c.args.shared.now x y c.requires
    (e.mgr, c.requires.own.passes.disp.1) e.own e.same.0
    (e.fits (stop_in x.halted) [] c.requires.fits) (omega arith) e.stays.0.tallied refl
    (keeps_silent (known_by x) (mgr_view c.sweep.new.pass) e.made c.requires.events)

pub returns-in-Some-clause-goes_on : goal.returns-in-Some-clause-goes_on
returns-in-Some-clause-goes_on g c =
    let x = c.args.row.now in
    let e = c.sweep.ensures in
    let y = record x { disp = record x.disp { mgr = c.sweep.new.pass }; runner = c.sweep.new.self } in
    goes_aside x y (made_grown (mgr_view x.disp.mgr) [] (mgr_view c.sweep.new.pass) e.made) refl e.stays.0 e.same.1

pub returns-in-Some-clause-may_halt : goal.returns-in-Some-clause-may_halt
returns-in-Some-clause-may_halt g c =
    let r = c.sweep.new.self in
    let u =
    told_of (mgr_view c.sweep.new.pass) (view_of r.tallied) (seen_of r.timed) (g.B.Book.told r.book) in
    record {
      stops =
          subst (λ (o : Option ℕ). FitsUntil r.limit o u []) c.in-Some.is
          (c.sweep.ensures.stops [] c.requires.fits.0);
      faulted = λ is. absurd (cc);
    }

pub returns-in-None-clause-serves : goal.returns-in-None-clause-serves
returns-in-None-clause-serves g c =
    let x = c.args.row.now in
    let e = c.sweep.ensures in
    let y = record x { disp = record x.disp { mgr = c.sweep.new.pass }; runner = c.sweep.new.self } in
    let polls = e.stays.1.same_faults in
    serves_on g.B.Book.told g.P.Poller.meaning.faults c.args.shared.now x y c.requires
    (e.mgr, c.requires.own.passes.disp.1) e.own e.same.0
    (e.fits (stop_in x.halted) [] c.requires.fits) (omega arith) e.stays.0.tallied refl
    (keeps_silent (known_by x) (mgr_view c.sweep.new.pass) e.made c.requires.events)

pub returns-in-None-clause-goes_on : goal.returns-in-None-clause-goes_on
returns-in-None-clause-goes_on g c =
    let x = c.args.row.now in
    let e = c.sweep.ensures in
    let y = record x { disp = record x.disp { mgr = c.sweep.new.pass }; runner = c.sweep.new.self } in
    goes_aside x y (made_grown (mgr_view x.disp.mgr) [] (mgr_view c.sweep.new.pass) e.made) refl e.stays.0 e.same.1

pub sweep-requires-clause-mgr : goal.sweep-requires-clause-mgr
sweep-requires-clause-mgr g c = c.requires.own.passes.disp.0

pub sweep-requires-clause-own : goal.sweep-requires-clause-own
sweep-requires-clause-own g c = cells_of c.args.shared.now c.args.row.now c.requires.own
