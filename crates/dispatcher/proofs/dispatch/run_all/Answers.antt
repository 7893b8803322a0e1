use Rattle.std.proofs.Common.{◌+◌, ◌∷◌, [], map, length, refl, ap, ◌∙◌, subst, arith}
use Rattle.ready_queue.specs.Calls.{view_of, capacity_of}
use Rattle.stripe_table.specs.Calls.{fired_key}
use Rattle.event_mgr.specs.Manager.{mgr_view}
use Rattle.dispatcher.specs.declared.runner.AfterRun.TheVariants.{Events, Stop}
use Rattle.dispatcher.specs.Entries.{firings}
use Rattle.dispatcher.specs.Firings.{jobs_of, job_keys_of}
use Rattle.dispatcher.specs.Turns.{book_of, work_with, HasRunKeys}
use Rattle.dispatcher.proofs.Accounts.{accounted_same, accounted_then}
use Rattle.dispatcher.proofs.Steps.{book, run_deal_step}
use Rattle.dispatcher.proofs.Works.{work, worked_then, run_then, run_same}
use Rattle.dispatcher.proofs.WorkSteps.{run_step, shut_step}
use Rattle.dispatcher.proofs.Ends.{deal_any_takes_none, fired_length}
use Rattle.dispatcher.proofs.dispatch.run_all.Goals as goal

pub loop-fired-init : goal.loop-fired-init
loop-fired-init g c = record {
  own = c.requires.own;
  stop = c.requires.stop;
  room = c.requires.room;
  fits = c.requires.fits;
  poller = record { same_polled = refl; same_faults = refl };
  events = accounted_same (capacity_of c.args.queue.now) (book_of c.args.passes.now);
  takes = refl;
  ran = λ o. (
    0,
    omega arith,
    run_same g.X.Runner.meaning g.met.X.Runner.laws.keeps_same
        (work_with (firings o (map (fired_key g.T.Load.tag) c.args.list)) [] c.args.passes.now)
        c.args.runner.now,
  );
}

pub loop-fired-preserved-in-Events : goal.loop-fired-preserved-in-Events
loop-fired-preserved-in-Events g c =
    let i = c.loop-fired.invariant in
    let p = c.loop-fired.passes in
    let cap = capacity_of c.args.queue.now in
    let fk = fired_key g.T.Load.tag in
    let rest = c.pop_first.new.self in
    let popped = c.in-Some.ensures in
    let m = mgr_view c.run.new.pass in
    let q = view_of c.put_or_keep_any-in-Events.new.pass in
    record {
      own = (c.run.ensures.own, c.put_or_keep_any-in-Events.ensures.own);
      stop = c.in-Events.ensures.stop;
      room = c.put_or_keep_any-in-Events.ensures.room (c.put_or_keep_any.ensures.room i.room);
      fits = (
        i.fits.0,
        c.run.ensures.fits i.fits.0 (jobs_of (firings i.fits.0 (map fk rest)))
            (subst (λ l. g.X.Runner.meaning.fits c.loop-fired.runner (mgr_view p.mgr)
            (jobs_of (firings i.fits.0 (map fk l)))) popped i.fits.1),
      );
      poller = record {
        same_polled = c.run.ensures.poller.same_polled ∙ i.poller.same_polled;
        same_faults = c.run.ensures.poller.same_faults ∙ i.poller.same_faults;
      };
      events =
          accounted_then cap (book_of c.args.passes.now) (book_of p)
          (book m q c.put_or_keep_any-in-Events.new.hand [] []) i.events
          (run_deal_step cap (mgr_view p.mgr) m (view_of p.queue) (view_of c.put_or_keep_any.new.pass)
          q p.hand c.put_or_keep_any.new.hand c.put_or_keep_any-in-Events.new.hand
          (Events c.in-Events.pair) c.in-Events.ensures.made c.put_or_keep_any.ensures.put_or_kept
          c.put_or_keep_any-in-Events.ensures.put_or_kept);
      takes =
          deal_any_takes_none (λ _. 1) cap c.in-Events.pair.second
          (view_of c.put_or_keep_any.new.pass) c.put_or_keep_any.new.hand q
          c.put_or_keep_any-in-Events.new.hand c.put_or_keep_any-in-Events.ensures.put_or_kept
          ∙ (deal_any_takes_none (λ _. 1) cap c.in-Events.pair.first (view_of p.queue) p.hand
          (view_of c.put_or_keep_any.new.pass) c.put_or_keep_any.new.hand
          c.put_or_keep_any.ensures.put_or_kept ∙ i.takes);
      ran =
          λ o.
          let r = i.ran o in
          let k = ap length popped in
          let n = r.1 in
          let a = work_with (firings o (map fk c.args.list)) [] c.args.passes.now in
          let t = subst (λ l. HasRunKeys g.X.Runner.meaning r.0 a c.args.runner.now
          (work (mgr_view p.mgr) (firings o (map fk l)) []) c.loop-fired.runner) popped r.2 in (
            r.0 + 1,
            omega arith,
            run_then g.X.Runner.meaning g.met.X.Runner.laws.keeps_on r.0 1 a c.args.runner.now
                (work (mgr_view p.mgr) ((o, fk c.in-Some.fired) ∷ firings o (map fk rest)) [])
                c.loop-fired.runner
                (work m (firings o (map fk rest)) []) c.run.new.self t
                (run_step g.X.Runner.meaning (mgr_view p.mgr) m c.loop-fired.runner c.run.new.self
                (o, fk c.in-Some.fired) (firings o (map fk rest))
                (Events c.in-Events.pair) c.in-Events.ensures.made
                c.run.ensures.runs c.run.ensures.shuts c.run.ensures.keeps),
          );
    }

pub loop-fired-preserved : goal.loop-fired-preserved
loop-fired-preserved g c =
    let i = c.loop-fired.invariant in
    let p = c.loop-fired.passes in
    let cap = capacity_of c.args.queue.now in
    let fk = fired_key g.T.Load.tag in
    let rest = c.pop_first.new.self in
    let popped = c.in-Some.ensures in
    let m = mgr_view c.run.new.pass in
    let q = view_of c.put_or_keep_any-in-Events.new.pass in
    record {
      own = (c.run.ensures.own, c.put_or_keep_any-in-Events.ensures.own);
      stop = c.in-Events.ensures.stop;
      room = c.put_or_keep_any-in-Events.ensures.room (c.put_or_keep_any.ensures.room i.room);
      fits = (
        i.fits.0,
        c.run.ensures.fits i.fits.0 (jobs_of (firings i.fits.0 (map fk rest)))
            (subst (λ l. g.X.Runner.meaning.fits c.loop-fired.runner (mgr_view p.mgr)
            (jobs_of (firings i.fits.0 (map fk l)))) popped i.fits.1),
      );
      poller = record {
        same_polled = c.run.ensures.poller.same_polled ∙ i.poller.same_polled;
        same_faults = c.run.ensures.poller.same_faults ∙ i.poller.same_faults;
      };
      events =
          accounted_then cap (book_of c.args.passes.now) (book_of p)
          (book m q c.put_or_keep_any-in-Events.new.hand [] []) i.events
          (run_deal_step cap (mgr_view p.mgr) m (view_of p.queue) (view_of c.put_or_keep_any.new.pass)
          q p.hand c.put_or_keep_any.new.hand c.put_or_keep_any-in-Events.new.hand
          (Events c.in-Events.pair) c.in-Events.ensures.made c.put_or_keep_any.ensures.put_or_kept
          c.put_or_keep_any-in-Events.ensures.put_or_kept);
      takes =
          deal_any_takes_none (λ _. 1) cap c.in-Events.pair.second
          (view_of c.put_or_keep_any.new.pass) c.put_or_keep_any.new.hand q
          c.put_or_keep_any-in-Events.new.hand c.put_or_keep_any-in-Events.ensures.put_or_kept
          ∙ (deal_any_takes_none (λ _. 1) cap c.in-Events.pair.first (view_of p.queue) p.hand
          (view_of c.put_or_keep_any.new.pass) c.put_or_keep_any.new.hand
          c.put_or_keep_any.ensures.put_or_kept ∙ i.takes);
      ran =
          λ o.
          let r = i.ran o in
          let k = ap length popped in
          let n = r.1 in
          let a = work_with (firings o (map fk c.args.list)) [] c.args.passes.now in
          let t = subst (λ l. HasRunKeys g.X.Runner.meaning r.0 a c.args.runner.now
          (work (mgr_view p.mgr) (firings o (map fk l)) []) c.loop-fired.runner) popped r.2 in (
            r.0 + 1,
            omega arith,
            run_then g.X.Runner.meaning g.met.X.Runner.laws.keeps_on r.0 1 a c.args.runner.now
                (work (mgr_view p.mgr) ((o, fk c.in-Some.fired) ∷ firings o (map fk rest)) [])
                c.loop-fired.runner
                (work m (firings o (map fk rest)) []) c.run.new.self t
                (run_step g.X.Runner.meaning (mgr_view p.mgr) m c.loop-fired.runner c.run.new.self
                (o, fk c.in-Some.fired) (firings o (map fk rest))
                (Events c.in-Events.pair) c.in-Events.ensures.made
                c.run.ensures.runs c.run.ensures.shuts c.run.ensures.keeps),
          );
    }

pub returns-in-Stop-clause-events : goal.returns-in-Stop-clause-events
returns-in-Stop-clause-events g c =
    let i = c.loop-fired.invariant in
    let p = c.loop-fired.passes in
    let cap = capacity_of c.args.queue.now in
    let m = mgr_view c.run.new.pass in
    let q = view_of c.put_or_keep_any-in-Stop-2.new.pass in
    accounted_then cap (book_of c.args.passes.now) (book_of p)
    (book m q c.put_or_keep_any-in-Stop-2.new.hand [] []) i.events
    (run_deal_step cap (mgr_view p.mgr) m (view_of p.queue) (view_of c.put_or_keep_any-in-Stop.new.pass)
    q p.hand c.put_or_keep_any-in-Stop.new.hand c.put_or_keep_any-in-Stop-2.new.hand
    (Stop c.in-Stop.code c.in-Stop.pair) c.in-Stop.ensures.made c.put_or_keep_any-in-Stop.ensures.put_or_kept
    c.put_or_keep_any-in-Stop-2.ensures.put_or_kept)

pub returns-in-Stop-clause-takes : goal.returns-in-Stop-clause-takes
returns-in-Stop-clause-takes g c =
    let i = c.loop-fired.invariant in
    let p = c.loop-fired.passes in
    let cap = capacity_of c.args.queue.now in
    deal_any_takes_none (λ _. 1) cap c.in-Stop.pair.second (view_of c.put_or_keep_any-in-Stop.new.pass)
    c.put_or_keep_any-in-Stop.new.hand (view_of c.put_or_keep_any-in-Stop-2.new.pass)
    c.put_or_keep_any-in-Stop-2.new.hand c.put_or_keep_any-in-Stop-2.ensures.put_or_kept
    ∙ (deal_any_takes_none (λ _. 1) cap c.in-Stop.pair.first (view_of p.queue) p.hand
    (view_of c.put_or_keep_any-in-Stop.new.pass) c.put_or_keep_any-in-Stop.new.hand
    c.put_or_keep_any-in-Stop.ensures.put_or_kept ∙ i.takes)

pub returns-in-Stop-clause-ran : goal.returns-in-Stop-clause-ran
returns-in-Stop-clause-ran g c o =
    let i = c.loop-fired.invariant in
    let p = c.loop-fired.passes in
    let fk = fired_key g.T.Load.tag in
    let rest = c.pop_first.new.self in
    let m = mgr_view c.run.new.pass in
    let r = i.ran o in
    let a = work_with (firings o (map fk c.args.list)) [] c.args.passes.now in
    let back = firings o (map fk rest) in
    let t = subst (λ l. HasRunKeys g.X.Runner.meaning r.0 a c.args.runner.now
    (work (mgr_view p.mgr) (firings o (map fk l)) []) c.loop-fired.runner) c.in-Some.ensures r.2 in
    let b = run_then g.X.Runner.meaning g.met.X.Runner.laws.keeps_on r.0 1 a c.args.runner.now
    (work (mgr_view p.mgr) ((o, fk c.in-Some.fired) ∷ back) []) c.loop-fired.runner
    (work m back []) c.run.new.self t
    (run_step g.X.Runner.meaning (mgr_view p.mgr) m c.loop-fired.runner c.run.new.self
    (o, fk c.in-Some.fired) back (Stop c.in-Stop.code c.in-Stop.pair)
    c.in-Stop.ensures.made c.run.ensures.runs c.run.ensures.shuts c.run.ensures.keeps) in (
      back,
      worked_then g.X.Runner.meaning g.met.X.Runner.laws.keeps_on (job_keys_of back) a c.args.runner.now
          (work m back []) c.run.new.self (work m back []) c.shut_all.new.runner b.0
          (shut_step g.X.Runner.meaning m c.run.new.self c.shut_all.new.runner back
          (job_keys_of back) c.shut_all.ensures.runs (c.shut_all.ensures.shuts o) c.shut_all.ensures.keeps),
    )

pub returns-clause-ran : goal.returns-clause-ran
returns-clause-ran g c o =
    let i = c.loop-fired.invariant in
    let fk = fired_key g.T.Load.tag in
    let r = i.ran o in
    let empty = c.in_default.ensures.0 in
    let a = work_with (firings o (map fk c.args.list)) [] c.args.passes.now in
    let t = subst (λ l. HasRunKeys g.X.Runner.meaning r.0 a c.args.runner.now
    (work (mgr_view c.loop-fired.passes.mgr) (firings o (map fk l)) []) c.loop-fired.runner) empty r.2 in
    let k = ap length empty in
    let n = r.1 in
    let z = fired_length g.T.Load.tag o c.args.list in
    let s = t.1 in
    (t.0, omega arith)
