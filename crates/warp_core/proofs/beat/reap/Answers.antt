use Rattle.std.proofs.Common.{◌++◌, refl, ap, subst, ◌∙◌}
use Rattle.warp_passes.specs.CacheCalls.{DidReap}
use Rattle.warp_passes.specs.Own.{entries_of}
use Rattle.dispatcher.specs.Laws.{all_grown_same, grown_same}
use Rattle.turn_cell.specs.Calls.{view_of}
use Rattle.event_mgr.specs.Manager.{mgr_view}
use Rattle.warp_core.proofs.Serving.{goes_aside}
use Rattle.warp_core.proofs.beat.reap.Goals as goal

pub returns-in-Reaped-clause-goes_on : goal.returns-in-Reaped-clause-goes_on
returns-in-Reaped-clause-goes_on g c =
    let x = c.args.row.now in
    let y = record x { runner = record x.runner { cached = c.reap_once-out.new.pass } } in
    goes_aside x y (all_grown_same (mgr_view x.disp.mgr)) refl (record {
      cached = c.reap_once-out.ensures.cached.adds.grown;
      tallied = grown_same (view_of x.runner.tallied);
    }) refl

pub returns-in-Spent-clause-goes_on : goal.returns-in-Spent-clause-goes_on
returns-in-Spent-clause-goes_on g c =
    let x = c.args.row.now in
    let y = record x { runner = record x.runner { cached = c.reap_once-out.new.pass } } in
    goes_aside x y (all_grown_same (mgr_view x.disp.mgr)) refl (record {
      cached = c.reap_once-out.ensures.cached.adds.grown;
      tallied = grown_same (view_of x.runner.tallied);
    }) refl

pub reap_once-out-requires-clause-own : goal.reap_once-out-requires-clause-own
reap_once-out-requires-clause-own g c = c.requires.own.passes.cache

pub reap_once-out-requires-clause-basket : goal.reap_once-out-requires-clause-basket
reap_once-out-requires-clause-basket g c = c.clear.ensures

pub returns-in-Reaped-clause-serves : goal.returns-in-Reaped-clause-serves
returns-in-Reaped-clause-serves g c =
    let own = c.requires.own in
    let passes = own.passes in
    record {
      own = record {
        passes = record {
          disp = passes.disp;
          times = passes.times;
          cache = c.reap_once-out.ensures.own;
          tally = passes.tally;
        };
        shared = own.shared;
      };
      fits = c.requires.fits;
      halts = c.requires.halts;
      events = c.requires.events;
    }

pub returns-in-Spent-clause-serves : goal.returns-in-Spent-clause-serves
returns-in-Spent-clause-serves g c =
    let own = c.requires.own in
    let passes = own.passes in
    record {
      own = record {
        passes = record {
          disp = passes.disp;
          times = passes.times;
          cache = c.reap_once-out.ensures.own;
          tally = passes.tally;
        };
        shared = own.shared;
      };
      fits = c.requires.fits;
      halts = c.requires.halts;
      events = c.requires.events;
    }

pub returns-in-Spent-clause-may_halt : goal.returns-in-Spent-clause-may_halt
returns-in-Spent-clause-may_halt g c = record { stops = (c.requires.fits.0, tt); faulted = λ is. absurd (cc) }

pub returns-in-Reaped-clause-reaped : goal.returns-in-Reaped-clause-reaped
returns-in-Reaped-clause-reaped g c = λ is.
    let cached = c.reap_once-out.ensures.cached in
    let did = subst (λ out. DidReap out cached.piece) c.in-Reaped.is cached.did in
    (did.0, cached.adds.own ∙ ap (λ l. entries_of (view_of c.args.row.now.runner.cached) ++ l) did.1)

pub returns-in-Spent-clause-reaped : goal.returns-in-Spent-clause-reaped
returns-in-Spent-clause-reaped g c = λ is. absurd (cc)
