use Rattle.std.proofs.Common.{[], ◌∷◌, length, refl, ap, subst, arith}
use Rattle.std.specs.Prelude.{None, Option}
use Rattle.std.specs.Option.{option_to_list}
use Rattle.reg_keys.specs.declared.event.EventName.{EventName}
use Rattle.turn_cell.specs.Calls.{view_of}
use Rattle.event_mgr.specs.Manager.{mgr_view}
use Rattle.timeout_mgr.specs.Calls.{view_of as seen_of}
use Rattle.dispatcher.specs.Runs.{HasMadeCalls}
use Rattle.warp_runner.specs.Acts.{told_of}
use Rattle.warp_runner.specs.Runs.{begun_by}
use Rattle.warp_core.specs.Rows.{known_by}
use Rattle.warp_core.proofs.Keeping.{keeps_called, keeps_silent}
use Rattle.warp_core.proofs.Serving.{cells_of, goes_aside, goes_then, made_grown, serves_with}
use Rattle.warp_core.proofs.Halting.{halts_as}
use Rattle.warp_core.proofs.KeepingBeats.{on_aside, on_then}
use Rattle.warp_core.specs.Rows.{beat_of}
use Rattle.warp_core.proofs.serve.listen.Goals as goal

pub begin_listening-requires-clause-mgr : goal.begin_listening-requires-clause-mgr
begin_listening-requires-clause-mgr g c = c.requires.serves.own.passes.disp.0

pub begin_listening-requires-clause-own : goal.begin_listening-requires-clause-own
begin_listening-requires-clause-own g c = cells_of c.args.shared.now c.args.row.now c.requires.serves.own

pub begin_listening-requires-clause-unfailed : goal.begin_listening-requires-clause-unfailed
begin_listening-requires-clause-unfailed g c = c.requires.listener

pub push-requires : goal.push-requires
push-requires g c = let none = ap length c.requires.hand in omega arith

pub halt-requires-clause-serves : goal.halt-requires-clause-serves
halt-requires-clause-serves g c =
    let x = c.args.row.now in
    let e = c.begin_listening.ensures in
    let y = record x {
      disp = record x.disp { mgr = c.begin_listening.new.pass };
      runner = c.begin_listening.new.self;
      halted = None;
    } in
    serves_with g.B.Book.told g.P.Poller.meaning.faults c.args.shared.now x y c.requires.serves
    (e.mgr, c.requires.serves.own.passes.disp.1) e.own e.same.0
    (((e.fits [] c.requires.serves.fits.0).0, tt)) tt
    (keeps_silent (known_by x) (mgr_view c.begin_listening.new.pass) c.in-Err.ensures.made c.requires.serves.events)

pub halt-requires-clause-may_halt : goal.halt-requires-clause-may_halt
halt-requires-clause-may_halt g c = record {
  stops =
      let r = c.begin_listening.new.self in
      let u = told_of (mgr_view c.begin_listening.new.pass) (view_of r.tallied) (seen_of r.timed)
      (g.B.Book.told r.book) in
      halts_as r.limit u [] c.halted_with.result c.in-Err.code c.halted_with.ensures.stops
      (c.in-Err.ensures.fits [] c.requires.serves.fits.0);
  faulted = λ is. c.in-Err.ensures.faulted (c.halted_with.ensures.faulted is);
}

pub returns-in-Ok-None-clause-serves : goal.returns-in-Ok-None-clause-serves
returns-in-Ok-None-clause-serves g c =
    let x = c.args.row.now in
    let e = c.begin_listening.ensures in
    let made = subst (λ (o : Option EventName). HasMadeCalls (mgr_view x.disp.mgr) (option_to_list o)
    (mgr_view c.begin_listening.new.pass)) c.in-Ok-None.field-0-is c.in-Ok-None.ensures.made in
    let y = record x {
      disp = record x.disp { mgr = c.begin_listening.new.pass };
      runner = c.begin_listening.new.self;
      halted = None;
    } in
    serves_with g.B.Book.told g.P.Poller.meaning.faults c.args.shared.now x y c.requires.serves
    (e.mgr, c.requires.serves.own.passes.disp.1) e.own e.same.0
    (((e.fits [] c.requires.serves.fits.0).0, tt)) tt
    (keeps_silent (known_by x) (mgr_view c.begin_listening.new.pass) made c.requires.serves.events)

pub returns-in-Ok-None-clause-goes_on : goal.returns-in-Ok-None-clause-goes_on
returns-in-Ok-None-clause-goes_on g c =
    let x = c.args.row.now in
    let e = c.begin_listening.ensures in
    let y = record x {
      disp = record x.disp { mgr = c.begin_listening.new.pass };
      runner = c.begin_listening.new.self;
      halted = None;
    } in
    goes_aside x y
    (made_grown (mgr_view x.disp.mgr) (begun_by c.begin_listening.result)
    (mgr_view c.begin_listening.new.pass) e.made) refl e.stays.0 e.same.1

pub returns-in-Ok-Some-clause-serves : goal.returns-in-Ok-Some-clause-serves
returns-in-Ok-Some-clause-serves g c =
    let x = c.args.row.now in
    let e = c.begin_listening.ensures in
    let made = subst (λ (o : Option EventName). HasMadeCalls (mgr_view x.disp.mgr) (option_to_list o)
    (mgr_view c.begin_listening.new.pass)) c.in-Ok-Some.field-0-is c.in-Ok-Some.ensures.made in
    let y = record x {
      disp = record x.disp { mgr = c.begin_listening.new.pass; hand = c.push.new.self };
      runner = c.begin_listening.new.self;
      halted = None;
    } in
    serves_with g.B.Book.told g.P.Poller.meaning.faults c.args.shared.now x y c.requires.serves
    (e.mgr, c.requires.serves.own.passes.disp.1) e.own e.same.0
    (((e.fits [] c.requires.serves.fits.0).0, tt)) tt
    (keeps_called (known_by x) (c.in-Ok-Some.event ∷ []) (mgr_view c.begin_listening.new.pass) c.push.new.self
    made c.push.ensures c.requires.serves.events)

pub returns-in-Ok-Some-clause-goes_on : goal.returns-in-Ok-Some-clause-goes_on
returns-in-Ok-Some-clause-goes_on g c =
    let x = c.args.row.now in
    let e = c.begin_listening.ensures in
    let y = record x {
      disp = record x.disp { mgr = c.begin_listening.new.pass; hand = c.push.new.self };
      runner = c.begin_listening.new.self;
      halted = None;
    } in
    goes_aside x y
    (made_grown (mgr_view x.disp.mgr) (begun_by c.begin_listening.result)
    (mgr_view c.begin_listening.new.pass) e.made) refl e.stays.0 e.same.1

pub returns-in-Err-clause-serves : goal.returns-in-Err-clause-serves
returns-in-Err-clause-serves g c = c.halt.ensures.serves

pub returns-in-Err-clause-goes_on : goal.returns-in-Err-clause-goes_on
returns-in-Err-clause-goes_on g c =
    let x = c.args.row.now in
    let e = c.begin_listening.ensures in
    let y = record x {
      disp = record x.disp { mgr = c.begin_listening.new.pass };
      runner = c.begin_listening.new.self;
      halted = None;
    } in
    goes_then x y c.halt.new.row
    (goes_aside x y (made_grown (mgr_view x.disp.mgr) (begun_by c.begin_listening.result)
    (mgr_view c.begin_listening.new.pass) e.made) refl e.stays.0 e.same.1)
    c.halt.ensures.goes_on

pub returns-in-Ok-None-clause-on : goal.returns-in-Ok-None-clause-on
returns-in-Ok-None-clause-on g c =
    let x = c.args.row.now in
    let e = c.begin_listening.ensures in
    let y = record x {
      disp = record x.disp { mgr = c.begin_listening.new.pass };
      runner = c.begin_listening.new.self;
      halted = None;
    } in
    on_aside g.C.Clock.told x y refl e.clock e.timed

pub returns-in-Ok-Some-clause-on : goal.returns-in-Ok-Some-clause-on
returns-in-Ok-Some-clause-on g c =
    let x = c.args.row.now in
    let e = c.begin_listening.ensures in
    let y = record x {
      disp = record x.disp { mgr = c.begin_listening.new.pass; hand = c.push.new.self };
      runner = c.begin_listening.new.self;
      halted = None;
    } in
    on_aside g.C.Clock.told x y refl e.clock e.timed

pub returns-in-Err-clause-on : goal.returns-in-Err-clause-on
returns-in-Err-clause-on g c =
    let x = c.args.row.now in
    let e = c.begin_listening.ensures in
    let y = record x {
      disp = record x.disp { mgr = c.begin_listening.new.pass };
      runner = c.begin_listening.new.self;
      halted = None;
    } in
    on_then (beat_of g.C.Clock.told x) (beat_of g.C.Clock.told y) (beat_of g.C.Clock.told c.halt.new.row)
    (on_aside g.C.Clock.told x y refl e.clock e.timed) c.halt.ensures.on
