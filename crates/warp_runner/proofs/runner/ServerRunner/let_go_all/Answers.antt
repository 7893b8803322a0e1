use Rattle.std.proofs.Common.{[], map, refl, ap, ◌∙◌}
use Rattle.std.specs.Prelude.{Some}
use Rattle.turn_cell.specs.Calls.{view_of}
use Rattle.stripe_table.specs.Calls.{shut_key}
use Rattle.event_mgr.specs.Manager.{MgrView}
use Rattle.timeout_mgr.specs.Calls.{view_of as seen_of}
use Rattle.warp_jobs.specs.Tags.{tag_of}
use Rattle.warp_runner.specs.Acts.{Did, told_of}
use Rattle.warp_runner.specs.Deeds.{IsLetGo}
use Rattle.warp_runner.specs.JournalLaws.{grown_none, grown_then}
use Rattle.warp_runner.proofs.Doing.{did_none, did_then}
use Rattle.warp_runner.proofs.Turning.{gone_none, gone_on, gone_all, gone_stopped}
use Rattle.warp_runner.proofs.runner.ServerRunner.let_go_all.Goals as goal

pub loop-waited-init : goal.loop-waited-init
loop-waited-init g c =
    let was = c.args.self.now in record {
      own = c.requires.own;
      same = (refl, refl);
      clock = refl;
      stays = (
        grown_none (view_of was.cached) (view_of was.tallied),
        record { same_polled = refl; same_faults = refl },
      );
      gone =
          gone_none IsLetGo (map (shut_key (λ job. tag_of job)) c.args.list) (λ acts. (v : MgrView)
          → Did (told_of v (view_of was.tallied) (seen_of was.timed) (g.B.Book.told was.book)) acts
          [] (told_of v (view_of was.tallied) (seen_of was.timed) (g.B.Book.told was.book)))
          (λ v. did_none c.calls_of_runs.ensures
          (told_of v (view_of was.tallied) (seen_of was.timed) (g.B.Book.told was.book)));
    }

pub returns-in-Some-let_go-clause-did : goal.returns-in-Some-let_go-clause-did
returns-in-Some-let_go-clause-did g c =
    let was = c.args.self.now in
    let now = c.loop-waited.self in
    let next = c.let_go.new.self in
    let d = c.in-Some-let_go.ensures.did in
    gone_stopped IsLetGo (map (shut_key (λ job. tag_of job)) c.args.list)
    (shut_key (λ job. tag_of job) c.in-Some.waited) (map (shut_key (λ job. tag_of job)) c.loop-waited.list)
    (map (shut_key (λ job. tag_of job)) c.pop_first.new.self) (λ acts.
    (v : MgrView) → Did (told_of v (view_of was.tallied) (seen_of was.timed) (g.B.Book.told was.book)) acts
    [] (told_of v (view_of now.tallied) (seen_of now.timed) (g.B.Book.told now.book)))
    (λ acts. (v : MgrView)
    → Did (told_of v (view_of was.tallied) (seen_of was.timed) (g.B.Book.told was.book)) acts
    [] (told_of v (view_of next.tallied) (seen_of next.timed) (g.B.Book.told next.book)))
    d.0 (Some c.in-Some-let_go.code) c.in-Some-let_go.code c.loop-waited.invariant.gone
    (ap (map (shut_key (λ job. tag_of job))) c.in-Some.ensures) d.2 refl
    (λ a m v. did_then c.calls_of_runs.ensures (told_of v (view_of was.tallied) (seen_of was.timed)
    (g.B.Book.told was.book)) (told_of v (view_of now.tallied) (seen_of now.timed) (g.B.Book.told now.book))
    (told_of v (view_of next.tallied) (seen_of next.timed) (g.B.Book.told next.book)) a d.0
    [] [] (m v) (d.1 v))

pub loop-waited-preserved : goal.loop-waited-preserved
loop-waited-preserved g c =
    let was = c.args.self.now in
    let now = c.loop-waited.self in
    let next = c.let_go.new.self in
    let d = c.in_default-let_go.ensures.did in
    let e = c.let_go.ensures in record {
      own = e.own;
      same = (e.same.0 ∙ c.loop-waited.invariant.same.0, e.same.1 ∙ c.loop-waited.invariant.same.1);
      clock = e.clock ∙ c.loop-waited.invariant.clock;
      stays = (
        grown_then (view_of was.cached) (view_of now.cached) (view_of next.cached) (view_of was.tallied)
            (view_of now.tallied) (view_of next.tallied) c.loop-waited.invariant.stays.0 e.stays.0,
        record {
          same_polled = e.stays.1.same_polled ∙ c.loop-waited.invariant.stays.1.same_polled;
          same_faults = e.stays.1.same_faults ∙ c.loop-waited.invariant.stays.1.same_faults;
        },
      );
      gone =
          gone_on IsLetGo (map (shut_key (λ job. tag_of job)) c.args.list)
          (shut_key (λ job. tag_of job) c.in-Some.waited)
          (map (shut_key (λ job. tag_of job)) c.loop-waited.list)
          (map (shut_key (λ job. tag_of job)) c.pop_first.new.self) (λ acts. (v : MgrView)
          → Did (told_of v (view_of was.tallied) (seen_of was.timed) (g.B.Book.told was.book)) acts
          [] (told_of v (view_of now.tallied) (seen_of now.timed) (g.B.Book.told now.book)))
          (λ acts. (v : MgrView)
          → Did (told_of v (view_of was.tallied) (seen_of was.timed) (g.B.Book.told was.book)) acts
          [] (told_of v (view_of next.tallied) (seen_of next.timed) (g.B.Book.told next.book)))
          d.0 c.loop-waited.invariant.gone (ap (map (shut_key (λ job. tag_of job))) c.in-Some.ensures) d.2
          (λ a m v. did_then c.calls_of_runs.ensures
          (told_of v (view_of was.tallied) (seen_of was.timed) (g.B.Book.told was.book))
          (told_of v (view_of now.tallied) (seen_of now.timed) (g.B.Book.told now.book)) (told_of v
          (view_of next.tallied) (seen_of next.timed) (g.B.Book.told next.book)) a d.0 [] [] (m v) (d.1 v));
    }

pub returns-clause-did : goal.returns-clause-did
returns-clause-did g c =
    let was = c.args.self.now in
    let now = c.loop-waited.self in
    gone_all IsLetGo (map (shut_key (λ job. tag_of job)) c.args.list)
    (map (shut_key (λ job. tag_of job)) c.loop-waited.list) (λ acts.
    (v : MgrView) → Did (told_of v (view_of was.tallied) (seen_of was.timed) (g.B.Book.told was.book)) acts
    [] (told_of v (view_of now.tallied) (seen_of now.timed) (g.B.Book.told now.book)))
    c.loop-waited.invariant.gone (ap (map (shut_key (λ job. tag_of job))) c.in_default.ensures.0)
