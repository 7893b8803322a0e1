use Rattle.std.proofs.Common.{[], refl, arith}
use Rattle.event_mgr.specs.Manager.{mgr_view}
use Rattle.dispatcher.specs.Laws.{all_grown_same}
use Rattle.warp_core.specs.Rows.{stop_in}
use Rattle.warp_core.proofs.Serving.{cells_of, goes_aside, serves_on}
use Rattle.warp_core.proofs.KeepingBeats.{on_aside}
use Rattle.warp_core.proofs.settling.look_for_over.Goals as goal

pub look-requires : goal.look-requires
look-requires g c = record { own = cells_of c.args.shared.now c.args.row.now c.requires.own }

pub returns-in-Spent-clause-serves : goal.returns-in-Spent-clause-serves
returns-in-Spent-clause-serves g c =
    let x = c.args.row.now in
    let e = c.look.ensures in
    let y = record x { runner = c.look.new.self } in
    let polls = e.stays.1.same_faults in
    serves_on g.B.Book.told g.P.Poller.meaning.faults c.args.shared.now x y c.requires
    c.requires.own.passes.disp e.own e.same.0
    (e.fits (stop_in x.halted) (mgr_view x.disp.mgr) [] c.requires.fits) (omega arith) e.stays.0.tallied refl
    c.requires.events

pub returns-in-Spent-clause-goes_on : goal.returns-in-Spent-clause-goes_on
returns-in-Spent-clause-goes_on g c =
    let x = c.args.row.now in
    let e = c.look.ensures in
    let y = record x { runner = c.look.new.self } in
    goes_aside x y (all_grown_same (mgr_view x.disp.mgr)) refl e.stays.0 e.same.1

pub returns-then-is_over-clause-serves : goal.returns-then-is_over-clause-serves
returns-then-is_over-clause-serves g c =
    let x = c.args.row.now in
    let e = c.look.ensures in
    let y = record x { runner = c.look.new.self } in
    let polls = e.stays.1.same_faults in
    serves_on g.B.Book.told g.P.Poller.meaning.faults c.args.shared.now x y c.requires
    c.requires.own.passes.disp e.own e.same.0
    (e.fits (stop_in x.halted) (mgr_view x.disp.mgr) [] c.requires.fits) (omega arith) e.stays.0.tallied refl
    c.requires.events

pub returns-then-is_over-clause-goes_on : goal.returns-then-is_over-clause-goes_on
returns-then-is_over-clause-goes_on g c =
    let x = c.args.row.now in
    let e = c.look.ensures in
    let y = record x { runner = c.look.new.self } in
    goes_aside x y (all_grown_same (mgr_view x.disp.mgr)) refl e.stays.0 e.same.1

pub returns-else-is_over-clause-serves : goal.returns-else-is_over-clause-serves
returns-else-is_over-clause-serves g c =
    let x = c.args.row.now in
    let e = c.look.ensures in
    let y = record x { runner = c.look.new.self } in
    let polls = e.stays.1.same_faults in
    serves_on g.B.Book.told g.P.Poller.meaning.faults c.args.shared.now x y c.requires
    c.requires.own.passes.disp e.own e.same.0
    (e.fits (stop_in x.halted) (mgr_view x.disp.mgr) [] c.requires.fits) (omega arith) e.stays.0.tallied refl
    c.requires.events

pub returns-else-is_over-clause-goes_on : goal.returns-else-is_over-clause-goes_on
returns-else-is_over-clause-goes_on g c =
    let x = c.args.row.now in
    let e = c.look.ensures in
    let y = record x { runner = c.look.new.self } in
    goes_aside x y (all_grown_same (mgr_view x.disp.mgr)) refl e.stays.0 e.same.1

pub returns-then-is_over-clause-says : goal.returns-then-is_over-clause-says
returns-then-is_over-clause-says g c =
    let is = c.is_over.ensures c.if-is_over.true in
    record {
      reply = c.in-Done.reply;
      entered = c.in-Done.ensures.called;
      limit_is = is.0;
      accepted = refl;
      turned = refl;
      all = is.1;
    }

pub returns-in-Spent-clause-on : goal.returns-in-Spent-clause-on
returns-in-Spent-clause-on g c =
    let x = c.args.row.now in
    let e = c.look.ensures in
    let y = record x { runner = c.look.new.self } in
    on_aside g.C.Clock.told x y refl e.clock e.timed

pub returns-then-is_over-clause-on : goal.returns-then-is_over-clause-on
returns-then-is_over-clause-on g c =
    let x = c.args.row.now in
    let e = c.look.ensures in
    let y = record x { runner = c.look.new.self } in
    on_aside g.C.Clock.told x y refl e.clock e.timed

pub returns-else-is_over-clause-on : goal.returns-else-is_over-clause-on
returns-else-is_over-clause-on g c =
    let x = c.args.row.now in
    let e = c.look.ensures in
    let y = record x { runner = c.look.new.self } in
    on_aside g.C.Clock.told x y refl e.clock e.timed
