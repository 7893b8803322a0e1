use Rattle.std.proofs.Common.{[], refl, ◌∙◌}
use Rattle.std.specs.Prelude.{Some}
use Rattle.turn_cell.specs.Calls.{view_of}
use Rattle.event_mgr.specs.Manager.{mgr_view}
use Rattle.timeout_mgr.specs.Calls.{view_of as seen_of}
use Rattle.warp_runner.specs.Acts.{Did, told_of}
use Rattle.warp_runner.specs.Deeds.{IsTimingOut}
use Rattle.warp_runner.specs.JournalLaws.{grown_none, grown_then}
use Rattle.warp_runner.proofs.Doing.{did_none, did_then}
use Rattle.warp_runner.proofs.Turning.{gone_none, gone_on, gone_all, gone_stopped}
use Rattle.warp_runner.proofs.runner.ServerRunner.time_out_all.Goals as goal

pub loop-opening-init : goal.loop-opening-init
loop-opening-init g c =
    let was = c.args.self.now in record {
      mgr = c.requires.mgr;
      own = c.requires.own;
      same = (refl, refl);
      clock = refl;
      stays = (
        grown_none (view_of was.cached) (view_of was.tallied),
        record { same_polled = refl; same_faults = refl },
      );
      gone =
          gone_none IsTimingOut c.args.expired.now (λ acts.
          Did (told_of (mgr_view c.args.pass.now) (view_of was.tallied) (seen_of was.timed)
          (g.B.Book.told was.book)) acts [] (told_of (mgr_view c.args.pass.now)
          (view_of was.tallied) (seen_of was.timed) (g.B.Book.told was.book)))
          (did_none c.calls_of_runs.ensures (told_of (mgr_view c.args.pass.now) (view_of was.tallied)
          (seen_of was.timed) (g.B.Book.told was.book)));
    }

pub returns-in-Some-time_out-clause-did : goal.returns-in-Some-time_out-clause-did
returns-in-Some-time_out-clause-did g c =
    let was = c.args.self.now in
    let now = c.loop-opening.self in
    let next = c.time_out.new.self in
    let d = c.in-Some-time_out.ensures.did in
    gone_stopped IsTimingOut c.args.expired.now c.in-Some.opening c.loop-opening.expired c.pop_first.new.self
    (λ acts. Did (told_of (mgr_view c.args.pass.now) (view_of was.tallied) (seen_of was.timed)
    (g.B.Book.told was.book)) acts [] (told_of (mgr_view c.loop-opening.pass)
    (view_of now.tallied) (seen_of now.timed) (g.B.Book.told now.book)))
    (λ acts. Did (told_of (mgr_view c.args.pass.now) (view_of was.tallied) (seen_of was.timed)
    (g.B.Book.told was.book)) acts [] (told_of (mgr_view c.time_out.new.pass)
    (view_of next.tallied) (seen_of next.timed) (g.B.Book.told next.book)))
    d.0 (Some c.in-Some-time_out.code) c.in-Some-time_out.code c.loop-opening.invariant.gone
    c.in-Some.ensures d.2 refl (λ a m. did_then c.calls_of_runs.ensures
    (told_of (mgr_view c.args.pass.now) (view_of was.tallied) (seen_of was.timed) (g.B.Book.told was.book))
    (told_of (mgr_view c.loop-opening.pass) (view_of now.tallied) (seen_of now.timed)
    (g.B.Book.told now.book)) (told_of (mgr_view c.time_out.new.pass) (view_of next.tallied)
    (seen_of next.timed) (g.B.Book.told next.book)) a d.0 [] [] m d.1)

pub loop-opening-preserved : goal.loop-opening-preserved
loop-opening-preserved g c =
    let was = c.args.self.now in
    let now = c.loop-opening.self in
    let next = c.time_out.new.self in
    let d = c.in_default-time_out.ensures.did in
    let e = c.time_out.ensures in record {
      mgr = e.mgr;
      own = e.own;
      same = (e.same.0 ∙ c.loop-opening.invariant.same.0, e.same.1 ∙ c.loop-opening.invariant.same.1);
      clock = e.clock ∙ c.loop-opening.invariant.clock;
      stays = (
        grown_then (view_of was.cached) (view_of now.cached) (view_of next.cached) (view_of was.tallied)
            (view_of now.tallied) (view_of next.tallied) c.loop-opening.invariant.stays.0 e.stays.0,
        record {
          same_polled = e.stays.1.same_polled ∙ c.loop-opening.invariant.stays.1.same_polled;
          same_faults = e.stays.1.same_faults ∙ c.loop-opening.invariant.stays.1.same_faults;
        },
      );
      gone =
          gone_on IsTimingOut c.args.expired.now c.in-Some.opening c.loop-opening.expired c.pop_first.new.self
          (λ acts. Did (told_of (mgr_view c.args.pass.now) (view_of was.tallied) (seen_of was.timed)
          (g.B.Book.told was.book)) acts [] (told_of (mgr_view c.loop-opening.pass)
          (view_of now.tallied) (seen_of now.timed) (g.B.Book.told now.book)))
          (λ acts. Did (told_of (mgr_view c.args.pass.now) (view_of was.tallied) (seen_of was.timed)
          (g.B.Book.told was.book)) acts [] (told_of (mgr_view c.time_out.new.pass)
          (view_of next.tallied) (seen_of next.timed) (g.B.Book.told next.book)))
          d.0 c.loop-opening.invariant.gone c.in-Some.ensures d.2 (λ a m. did_then c.calls_of_runs.ensures
          (told_of (mgr_view c.args.pass.now) (view_of was.tallied) (seen_of was.timed)
          (g.B.Book.told was.book)) (told_of (mgr_view c.loop-opening.pass) (view_of now.tallied)
          (seen_of now.timed) (g.B.Book.told now.book)) (told_of (mgr_view c.time_out.new.pass)
          (view_of next.tallied) (seen_of next.timed) (g.B.Book.told next.book)) a d.0 [] [] m d.1);
    }

pub returns-clause-did : goal.returns-clause-did
returns-clause-did g c =
    let was = c.args.self.now in
    let now = c.loop-opening.self in
    gone_all IsTimingOut c.args.expired.now c.loop-opening.expired (λ acts.
    Did (told_of (mgr_view c.args.pass.now) (view_of was.tallied) (seen_of was.timed)
    (g.B.Book.told was.book)) acts [] (told_of (mgr_view c.loop-opening.pass)
    (view_of now.tallied) (seen_of now.timed) (g.B.Book.told now.book)))
    c.loop-opening.invariant.gone c.in_default.ensures.0
