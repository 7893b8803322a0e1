use Rattle.std.proofs.Common.{ℕ, [], refl, subst, arith}
use Rattle.std.specs.Prelude.{Option, None}
use Rattle.turn_cell.specs.Calls.{view_of}
use Rattle.timeout_mgr.specs.Calls.{view_of as seen_of}
use Rattle.event_mgr.specs.Manager.{mgr_view}
use Rattle.warp_runner.specs.Acts.{told_of}
use Rattle.warp_runner.specs.Journal.{FitsUntil}
use Rattle.warp_core.specs.Rows.{known_by}
use Rattle.warp_core.proofs.Keeping.{keeps_balanced}
use Rattle.warp_core.proofs.Serving.{cells_of, goes_by, serves_with}
use Rattle.warp_core.proofs.KeepingBeats.{on_turns}
use Rattle.warp_core.proofs.turns.turn_once.Goals as goal

pub turn-turned-requires-clause-ready : goal.turn-turned-requires-clause-ready
turn-turned-requires-clause-ready g c = record {
  own = c.requires.own.passes.disp;
  stop = refl;
  fits = (cells_of c.args.shared.now c.args.row.now c.requires.own, (c.requires.fits.0, tt));
}

pub turn-turned-requires-clause-empty : goal.turn-turned-requires-clause-empty
turn-turned-requires-clause-empty g c = c.clear.ensures

pub returns-in-Done-clause-serves : goal.returns-in-Done-clause-serves
returns-in-Done-clause-serves g c =
    let x = c.args.row.now in
    let e = c.turn-turned.ensures in
    let work = c.in-Done.ensures.turned.work in
    let y = record x {
      disp = c.turn-turned.new.passes;
      runner = c.turn-turned.new.runner;
      reports = c.turn-turned.new.reports;
      halted = None;
    } in
    serves_with g.B.Book.told g.P.Poller.meaning.faults c.args.shared.now x y c.requires e.own
    e.fits.0 work.kept.0 ((e.fits.1.0, tt)) tt
    (keeps_balanced (known_by x) (known_by y) c.in-Done.ensures.turned.events.balanced
    c.requires.events)

pub returns-in-Done-clause-goes_on : goal.returns-in-Done-clause-goes_on
returns-in-Done-clause-goes_on g c =
    let x = c.args.row.now in
    let e = c.turn-turned.ensures in
    let work = c.in-Done.ensures.turned.work in
    let y = record x {
      disp = c.turn-turned.new.passes;
      runner = c.turn-turned.new.runner;
      reports = c.turn-turned.new.reports;
      halted = None;
    } in
    goes_by x y work.grown c.in-Done.ensures.turned.events.queue work.kept.2 work.kept.1

pub returns-in-PollFault-clause-serves : goal.returns-in-PollFault-clause-serves
returns-in-PollFault-clause-serves g c =
    let x = c.args.row.now in
    let e = c.turn-turned.ensures in
    let work = c.in-PollFault.ensures.turned.work in
    let y = record x {
      disp = c.turn-turned.new.passes;
      runner = c.turn-turned.new.runner;
      reports = c.turn-turned.new.reports;
      halted = None;
    } in
    serves_with g.B.Book.told g.P.Poller.meaning.faults c.args.shared.now x y c.requires e.own
    e.fits.0 work.kept.0 ((e.fits.1.0, tt)) tt
    (keeps_balanced (known_by x) (known_by y) c.in-PollFault.ensures.turned.events.balanced
    c.requires.events)

pub returns-in-PollFault-clause-goes_on : goal.returns-in-PollFault-clause-goes_on
returns-in-PollFault-clause-goes_on g c =
    let x = c.args.row.now in
    let e = c.turn-turned.ensures in
    let work = c.in-PollFault.ensures.turned.work in
    let y = record x {
      disp = c.turn-turned.new.passes;
      runner = c.turn-turned.new.runner;
      reports = c.turn-turned.new.reports;
      halted = None;
    } in
    goes_by x y work.grown c.in-PollFault.ensures.turned.events.queue work.kept.2 work.kept.1

pub returns-in-Stop-clause-serves : goal.returns-in-Stop-clause-serves
returns-in-Stop-clause-serves g c =
    let x = c.args.row.now in
    let e = c.turn-turned.ensures in
    let work = c.in-Stop.ensures.turned.work in
    let y = record x {
      disp = c.turn-turned.new.passes;
      runner = c.turn-turned.new.runner;
      reports = c.turn-turned.new.reports;
      halted = None;
    } in
    serves_with g.B.Book.told g.P.Poller.meaning.faults c.args.shared.now x y c.requires e.own
    e.fits.0 work.kept.0 ((e.fits.1.0, tt)) tt
    (keeps_balanced (known_by x) (known_by y) c.in-Stop.ensures.turned.balanced
    c.requires.events)

pub returns-in-Stop-clause-goes_on : goal.returns-in-Stop-clause-goes_on
returns-in-Stop-clause-goes_on g c =
    let x = c.args.row.now in
    let e = c.turn-turned.ensures in
    let work = c.in-Stop.ensures.turned.work in
    let y = record x {
      disp = c.turn-turned.new.passes;
      runner = c.turn-turned.new.runner;
      reports = c.turn-turned.new.reports;
      halted = None;
    } in
    goes_by x y work.grown c.in-Stop.ensures.turned.queue work.kept.2 work.kept.1

pub returns-in-Spent-clause-serves : goal.returns-in-Spent-clause-serves
returns-in-Spent-clause-serves g c =
    let x = c.args.row.now in
    let e = c.turn-turned.ensures in
    let work = c.in-Spent.ensures.turned.0.work in
    let y = record x {
      disp = c.turn-turned.new.passes;
      runner = c.turn-turned.new.runner;
      reports = c.turn-turned.new.reports;
      halted = None;
    } in
    serves_with g.B.Book.told g.P.Poller.meaning.faults c.args.shared.now x y c.requires e.own
    e.fits.0 work.kept.0 ((e.fits.1.0, tt)) tt
    (keeps_balanced (known_by x) (known_by y) c.in-Spent.ensures.turned.0.balanced
    c.requires.events)

pub returns-in-Spent-clause-goes_on : goal.returns-in-Spent-clause-goes_on
returns-in-Spent-clause-goes_on g c =
    let x = c.args.row.now in
    let e = c.turn-turned.ensures in
    let work = c.in-Spent.ensures.turned.0.work in
    let y = record x {
      disp = c.turn-turned.new.passes;
      runner = c.turn-turned.new.runner;
      reports = c.turn-turned.new.reports;
      halted = None;
    } in
    goes_by x y work.grown c.in-Spent.ensures.turned.0.queue work.kept.2 work.kept.1

pub returns-in-PollFault-clause-may_halt : goal.returns-in-PollFault-clause-may_halt
returns-in-PollFault-clause-may_halt g c = record {
  stops = (c.turn-turned.ensures.fits.1.0, tt);
  faulted = λ is. (let rose = c.in-PollFault.ensures.turned.rose in omega arith);
}

pub returns-in-Stop-clause-may_halt : goal.returns-in-Stop-clause-may_halt
returns-in-Stop-clause-may_halt g c =
    let r = c.turn-turned.new.runner in
    let u = told_of (mgr_view c.turn-turned.new.passes.mgr) (view_of r.tallied) (seen_of r.timed)
    (g.B.Book.told r.book) in
    record {
      stops =
          subst (λ (o : Option ℕ). FitsUntil r.limit o u []) c.in-Stop.ensures.stop
          c.turn-turned.ensures.fits.1;
      faulted = λ is. absurd (cc);
    }

pub returns-in-Spent-clause-may_halt : goal.returns-in-Spent-clause-may_halt
returns-in-Spent-clause-may_halt g c =
    record { stops = (c.turn-turned.ensures.fits.1.0, tt); faulted = λ is. absurd (cc) }

pub returns-in-Done-clause-on : goal.returns-in-Done-clause-on
returns-in-Done-clause-on g c =
    let x = c.args.row.now in
    let work = c.in-Done.ensures.turned.work in
    let y = record x {
      disp = c.turn-turned.new.passes;
      runner = c.turn-turned.new.runner;
      reports = c.turn-turned.new.reports;
      halted = None;
    } in
    on_turns g.C.Clock.told x y refl work.kept.3 work.kept.4

pub returns-in-PollFault-clause-on : goal.returns-in-PollFault-clause-on
returns-in-PollFault-clause-on g c =
    let x = c.args.row.now in
    let work = c.in-PollFault.ensures.turned.work in
    let y = record x {
      disp = c.turn-turned.new.passes;
      runner = c.turn-turned.new.runner;
      reports = c.turn-turned.new.reports;
      halted = None;
    } in
    on_turns g.C.Clock.told x y refl work.kept.3 work.kept.4

pub returns-in-Stop-clause-on : goal.returns-in-Stop-clause-on
returns-in-Stop-clause-on g c =
    let x = c.args.row.now in
    let work = c.in-Stop.ensures.turned.work in
    let y = record x {
      disp = c.turn-turned.new.passes;
      runner = c.turn-turned.new.runner;
      reports = c.turn-turned.new.reports;
      halted = None;
    } in
    on_turns g.C.Clock.told x y refl work.kept.3 work.kept.4

pub returns-in-Spent-clause-on : goal.returns-in-Spent-clause-on
returns-in-Spent-clause-on g c =
    let x = c.args.row.now in
    let work = c.in-Spent.ensures.turned.0.work in
    let y = record x {
      disp = c.turn-turned.new.passes;
      runner = c.turn-turned.new.runner;
      reports = c.turn-turned.new.reports;
      halted = None;
    } in
    on_turns g.C.Clock.told x y refl work.kept.3 work.kept.4
