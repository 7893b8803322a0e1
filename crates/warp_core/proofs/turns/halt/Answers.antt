use Rattle.std.proofs.Common.{[], refl, subst, arith}
use Rattle.std.specs.Prelude.{Some, None}
use Rattle.turn_cell.specs.Calls.{view_of}
use Rattle.event_mgr.specs.Manager.{mgr_view}
use Rattle.dispatcher.specs.Laws.{all_grown_same}
use Rattle.warp_runner.specs.Journal.{FitsUntil}
use Rattle.warp_core.specs.declared.row.Halted.{Halted}
use Rattle.warp_core.specs.declared.row.Halted.TheVariants as Halts
use Rattle.warp_core.proofs.Serving.{cells_of, goes_aside, serves_with, stop_noted}
use Rattle.warp_core.specs.Rows.{stop_in, told_by}
use Rattle.warp_core.proofs.KeepingBeats.{on_aside}
use Rattle.warp_core.proofs.turns.halt.Goals as goal

pub note_stop-requires : goal.note_stop-requires
note_stop-requires g c = record { own = cells_of c.args.shared.now c.args.row.now c.requires.serves.own }

pub note_stop-requires-in-WithCode : goal.note_stop-requires-in-WithCode
note_stop-requires-in-WithCode g c =
    record { own = cells_of c.args.shared.now c.args.row.now c.requires.serves.own }

pub returns-in-PollFault-clause-serves : goal.returns-in-PollFault-clause-serves
returns-in-PollFault-clause-serves g c =
    let x = c.args.row.now in
    let e = c.note_stop.ensures in
    let y = record x { runner = c.note_stop.new.self; halted = Some Halts.PollFault } in
    let polls = e.stays.1.same_faults in
    serves_with g.B.Book.told g.P.Poller.meaning.faults c.args.shared.now x y c.requires.serves
    c.requires.serves.own.passes.disp e.own e.same.0
    (((e.fits None (mgr_view x.disp.mgr) [] ((c.requires.serves.fits.0, tt))).0, tt)) (let was =
    c.requires.may_halt.faulted c.in-PollFault.is in omega arith)
    c.requires.serves.events

pub returns-in-PollFault-clause-goes_on : goal.returns-in-PollFault-clause-goes_on
returns-in-PollFault-clause-goes_on g c =
    let x = c.args.row.now in
    let e = c.note_stop.ensures in
    let y = record x { runner = c.note_stop.new.self; halted = Some Halts.PollFault } in
    goes_aside x y (all_grown_same (mgr_view x.disp.mgr)) refl e.stays.0 e.same.1

pub returns-in-Done-clause-serves : goal.returns-in-Done-clause-serves
returns-in-Done-clause-serves g c =
    let x = c.args.row.now in
    let e = c.note_stop-in-WithCode.ensures in
    let y = record x {
      runner = c.note_stop-in-WithCode.new.self;
      halted = Some (Halts.WithCode c.in-WithCode.code);
    } in
    let polls = e.stays.1.same_faults in
    let stops = subst (λ (h : Halted).
    FitsUntil x.runner.limit (stop_in (Some h)) (told_by g.B.Book.told x) []) c.in-WithCode.is
    c.requires.may_halt.stops in
    serves_with g.B.Book.told g.P.Poller.meaning.faults c.args.shared.now x y c.requires.serves
    c.requires.serves.own.passes.disp e.own e.same.0
    (e.fits (Some c.in-WithCode.code) (mgr_view x.disp.mgr) [] stops)
    (stop_noted c.in-WithCode.code c.in-Done.field-0 (view_of x.runner.tallied)
    (view_of c.note_stop-in-WithCode.new.self.tallied) c.in-Done.ensures.called)
    c.requires.serves.events

pub returns-in-Done-clause-goes_on : goal.returns-in-Done-clause-goes_on
returns-in-Done-clause-goes_on g c =
    let x = c.args.row.now in
    let e = c.note_stop-in-WithCode.ensures in
    let y = record x {
      runner = c.note_stop-in-WithCode.new.self;
      halted = Some (Halts.WithCode c.in-WithCode.code);
    } in
    goes_aside x y (all_grown_same (mgr_view x.disp.mgr)) refl e.stays.0 e.same.1

pub returns-in-Spent-note_stop-clause-serves : goal.returns-in-Spent-note_stop-clause-serves
returns-in-Spent-note_stop-clause-serves g c =
    let x = c.args.row.now in
    let e = c.note_stop-in-WithCode.ensures in
    let y = record x { runner = c.note_stop-in-WithCode.new.self; halted = Some Halts.Spent } in
    let polls = e.stays.1.same_faults in
    serves_with g.B.Book.told g.P.Poller.meaning.faults c.args.shared.now x y c.requires.serves
    c.requires.serves.own.passes.disp e.own e.same.0
    (e.fits None (mgr_view x.disp.mgr) [] ((c.requires.serves.fits.0, tt))) tt
    c.requires.serves.events

pub returns-in-Spent-note_stop-clause-goes_on : goal.returns-in-Spent-note_stop-clause-goes_on
returns-in-Spent-note_stop-clause-goes_on g c =
    let x = c.args.row.now in
    let e = c.note_stop-in-WithCode.ensures in
    let y = record x { runner = c.note_stop-in-WithCode.new.self; halted = Some Halts.Spent } in
    goes_aside x y (all_grown_same (mgr_view x.disp.mgr)) refl e.stays.0 e.same.1

pub note_stop-requires-in-Spent : goal.note_stop-requires-in-Spent
note_stop-requires-in-Spent g c =
    record { own = cells_of c.args.shared.now c.args.row.now c.requires.serves.own }

pub returns-in-Spent-clause-serves : goal.returns-in-Spent-clause-serves
returns-in-Spent-clause-serves g c =
    let x = c.args.row.now in
    let e = c.note_stop-in-Spent.ensures in
    let y = record x { runner = c.note_stop-in-Spent.new.self; halted = Some Halts.Spent } in
    let polls = e.stays.1.same_faults in
    serves_with g.B.Book.told g.P.Poller.meaning.faults c.args.shared.now x y c.requires.serves
    c.requires.serves.own.passes.disp e.own e.same.0
    (e.fits None (mgr_view x.disp.mgr) [] ((c.requires.serves.fits.0, tt))) tt
    c.requires.serves.events

pub returns-in-Spent-clause-goes_on : goal.returns-in-Spent-clause-goes_on
returns-in-Spent-clause-goes_on g c =
    let x = c.args.row.now in
    let e = c.note_stop-in-Spent.ensures in
    let y = record x { runner = c.note_stop-in-Spent.new.self; halted = Some Halts.Spent } in
    goes_aside x y (all_grown_same (mgr_view x.disp.mgr)) refl e.stays.0 e.same.1

pub returns-in-PollFault-clause-on : goal.returns-in-PollFault-clause-on
returns-in-PollFault-clause-on g c =
    let x = c.args.row.now in
    let e = c.note_stop.ensures in
    let y = record x { runner = c.note_stop.new.self; halted = Some Halts.PollFault } in
    on_aside g.C.Clock.told x y refl e.clock e.timed

pub returns-in-Done-clause-on : goal.returns-in-Done-clause-on
returns-in-Done-clause-on g c =
    let x = c.args.row.now in
    let e = c.note_stop-in-WithCode.ensures in
    let y = record x {
      runner = c.note_stop-in-WithCode.new.self;
      halted = Some (Halts.WithCode c.in-WithCode.code);
    } in
    on_aside g.C.Clock.told x y refl e.clock e.timed

pub returns-in-Spent-note_stop-clause-on : goal.returns-in-Spent-note_stop-clause-on
returns-in-Spent-note_stop-clause-on g c =
    let x = c.args.row.now in
    let e = c.note_stop-in-WithCode.ensures in
    let y = record x { runner = c.note_stop-in-WithCode.new.self; halted = Some Halts.Spent } in
    on_aside g.C.Clock.told x y refl e.clock e.timed

pub returns-in-Spent-clause-on : goal.returns-in-Spent-clause-on
returns-in-Spent-clause-on g c =
    let x = c.args.row.now in
    let e = c.note_stop-in-Spent.ensures in
    let y = record x { runner = c.note_stop-in-Spent.new.self; halted = Some Halts.Spent } in
    on_aside g.C.Clock.told x y refl e.clock e.timed
