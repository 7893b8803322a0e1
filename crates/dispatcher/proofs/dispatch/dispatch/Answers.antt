use Rattle.std.proofs.Common.{◌++◌, ◌∷◌, [], map, length, refl, sym, ap, ◌∙◌, subst, arith}
use Rattle.reg_keys.specs.declared.event.EventName.{EventName}
use Rattle.reg_keys.specs.declared.entry.Entry.TheVariants as Entries
use Rattle.reg_keys.specs.declared.entry.DispatchOutcome.TheVariants as Dispatches
use Rattle.ready_queue.specs.Calls.{view_of, capacity_of}
use Rattle.stripe_table.specs.declared.calls.DispatchReply.TheVariants.{Ran, Stale, Spent}
use Rattle.stripe_table.specs.Calls.{fired_key}
use Rattle.event_mgr.specs.Stripes.{stripe_of}
use Rattle.event_mgr.specs.Manager.{mgr_view}
use Rattle.dispatcher.specs.Entries.{firings}
use Rattle.dispatcher.specs.Books.{IsBalanced}
use Rattle.dispatcher.specs.Firings.{job_keys_of}
use Rattle.dispatcher.specs.Turns.{book_of, book_with, work_with}
use Rattle.dispatcher.specs.Laws.{grown_same}
use Rattle.dispatcher.proofs.Accounts.{accounted_then}
use Rattle.dispatcher.proofs.Steps.{book, ran_deal_step, stale_step, refused_balanced}
use Rattle.dispatcher.proofs.Works.{work, worked_then, run_then}
use Rattle.dispatcher.proofs.WorkSteps.{fire_step, idle_step}
use Rattle.dispatcher.proofs.Replies.{ran_entered, stale_entered, dispatch_spent, met_either}
use Rattle.dispatcher.proofs.Ends.{deal_any_takes_none, fired_length, refused_work}
use Rattle.dispatcher.proofs.dispatch.dispatch.Goals as goal

pub run_all-requires-clause-fits : goal.run_all-requires-clause-fits
run_all-requires-clause-fits g c = (
  c.args.event.opening,
  g.met.X.Runner.laws.fits_dispatched c.args.runner.now c.args.event (mgr_view c.args.passes.now.mgr)
      (Ran c.in-Ran.list c.in-Ran.next) (mgr_view c.dispatch.new.pass)
      [] c.requires.ready.own.0.lawful c.dispatch.ensures.own.lawful c.in-Ran.ensures.step
      c.requires.ready.fits,
)

pub returns-in-None-clause-takes : goal.returns-in-None-clause-takes
returns-in-None-clause-takes g c =
    let p = c.args.passes.now in
    c.run_all.ensures.takes
    ∙ deal_any_takes_none (λ _. 1) (capacity_of c.args.queue.now) c.in-Ran.next (view_of p.queue) p.hand
    (view_of c.put_or_keep_any.new.pass) c.put_or_keep_any.new.hand c.put_or_keep_any.ensures.put_or_kept

pub returns-in-None-clause-went : goal.returns-in-None-clause-went
returns-in-None-clause-went g c = record {
  events =
      let p = c.args.passes.now in
      let cap = capacity_of c.args.queue.now in
      let e = c.args.event in
      let m = mgr_view c.dispatch.new.pass in
      let rs = map (fired_key g.T.Load.tag) c.in-Ran.list in
      accounted_then cap (book_with [] (e ∷ []) p)
      (book m (view_of c.put_or_keep_any.new.pass) c.put_or_keep_any.new.hand [] [])
      (book_of c.run_all.new.passes)
      (ran_deal_step c.calls_weigh.ensures cap (mgr_view p.mgr) m (view_of p.queue)
      (view_of c.put_or_keep_any.new.pass) p.hand c.put_or_keep_any.new.hand
      (stripe_of e.opening.fd) e rs c.in-Ran.next
      (ran_entered g.T.Load.tag e (mgr_view p.mgr) c.in-Ran.list c.in-Ran.next m c.in-Ran.ensures.step)
      c.put_or_keep_any.ensures.put_or_kept)
      c.run_all.ensures.events;
  ran =
      let p = c.args.passes.now in
      let e = c.args.event in
      let x = c.args.runner.now in
      let m = mgr_view c.dispatch.new.pass in
      let rs = map (fired_key g.T.Load.tag) c.in-Ran.list in
      let t = run_then g.X.Runner.meaning g.met.X.Runner.laws.keeps_on 0
      (length (firings e.opening rs)) (work_with [] [] p) x (work m (firings e.opening rs) []) x
      (work_with [] [] c.run_all.new.passes) c.run_all.new.runner
      (fire_step g.X.Runner.meaning g.met.X.Runner.laws.keeps_same (mgr_view p.mgr) m x e rs c.in-Ran.next
      (ran_entered g.T.Load.tag e (mgr_view p.mgr) c.in-Ran.list c.in-Ran.next m c.in-Ran.ensures.step))
      (c.in-None.ensures.ran e.opening) in
      let k = t.1 in
      let l = fired_length g.T.Load.tag e.opening c.in-Ran.list in (t.0, omega arith);
}

pub returns-in-Some-clause-halted : goal.returns-in-Some-clause-halted
returns-in-Some-clause-halted g c =
    let p = c.args.passes.now in
    let cap = capacity_of c.args.queue.now in
    let e = c.args.event in
    let x = c.args.runner.now in
    let m = mgr_view c.dispatch.new.pass in
    let rs = map (fired_key g.T.Load.tag) c.in-Ran.list in
    let entered =
    ran_entered g.T.Load.tag e (mgr_view p.mgr) c.in-Ran.list c.in-Ran.next m c.in-Ran.ensures.step in
    let a = accounted_then cap (book_with [] (e ∷ []) p) (book m
    (view_of c.put_or_keep_any.new.pass) c.put_or_keep_any.new.hand [] []) (book_of c.run_all.new.passes)
    (ran_deal_step c.calls_weigh.ensures cap (mgr_view p.mgr) m (view_of p.queue)
    (view_of c.put_or_keep_any.new.pass) p.hand c.put_or_keep_any.new.hand
    (stripe_of e.opening.fd) e rs c.in-Ran.next entered c.put_or_keep_any.ensures.put_or_kept)
    c.run_all.ensures.events in
    let r = c.in-Some.ensures.ran e.opening in record {
      balanced = a.balanced;
      queue = a.queue;
      back = r.0;
      work =
          worked_then g.X.Runner.meaning g.met.X.Runner.laws.keeps_on (job_keys_of r.0) (work_with [] [] p) x
          (work m (firings e.opening rs) []) x (work_with r.0 [] c.run_all.new.passes) c.run_all.new.runner
          ((fire_step g.X.Runner.meaning g.met.X.Runner.laws.keeps_same
          (mgr_view p.mgr) m x e rs c.in-Ran.next entered).0)
          r.1;
      cause = tt;
    }

pub returns-in-Stale-clause-leaves : goal.returns-in-Stale-clause-leaves
returns-in-Stale-clause-leaves g c = record {
  own = (c.dispatch.ensures.own, c.requires.ready.own.1);
  stop = c.requires.ready.stop;
  fits =
      g.met.X.Runner.laws.fits_dispatched c.args.runner.now c.args.event (mgr_view c.args.passes.now.mgr)
      Stale (mgr_view c.dispatch.new.pass) [] c.requires.ready.own.0.lawful c.dispatch.ensures.own.lawful
      c.in-Stale.ensures.step c.requires.ready.fits;
  poller = record { same_polled = refl; same_faults = refl };
}

pub returns-in-Stale-clause-went : goal.returns-in-Stale-clause-went
returns-in-Stale-clause-went g c = record {
  events =
      let p = c.args.passes.now in
      let e = c.args.event in
      let m = mgr_view c.dispatch.new.pass in
      stale_step c.calls_weigh.ensures (capacity_of c.args.queue.now)
      (mgr_view p.mgr) m (view_of p.queue) p.hand (stripe_of e.opening.fd) e
      (stale_entered g.T.Load.tag e (mgr_view p.mgr) m c.in-Stale.ensures.step);
  ran =
      let p = c.args.passes.now in
      let e = c.args.event in
      let m = mgr_view c.dispatch.new.pass in
      idle_step g.X.Runner.meaning g.met.X.Runner.laws.keeps_same (mgr_view p.mgr) m c.args.runner.now
      [] (stripe_of e.opening.fd) (Entries.Dispatch e Dispatches.Stale)
      (stale_entered g.T.Load.tag e (mgr_view p.mgr) m c.in-Stale.ensures.step) refl refl;
}

pub returns-in-Spent-clause-leaves : goal.returns-in-Spent-clause-leaves
returns-in-Spent-clause-leaves g c = record {
  own = (c.dispatch.ensures.own, c.requires.ready.own.1);
  stop = c.requires.ready.stop;
  fits =
      g.met.X.Runner.laws.fits_dispatched c.args.runner.now c.args.event
      (mgr_view c.args.passes.now.mgr) (Spent c.in-Spent.back) (mgr_view c.dispatch.new.pass)
      [] c.requires.ready.own.0.lawful c.dispatch.ensures.own.lawful c.in-Spent.ensures.step
      c.requires.ready.fits;
  poller = record { same_polled = refl; same_faults = refl };
}

pub returns-in-Spent-clause-halted : goal.returns-in-Spent-clause-halted
returns-in-Spent-clause-halted g c =
    let p = c.args.passes.now in
    let e = c.args.event in
    let v = mgr_view p.mgr in
    let m = mgr_view c.dispatch.new.pass in
    let s = stripe_of e.opening.fd in
    let d = dispatch_spent g.T.Load.tag e c.in-Spent.back v m c.in-Spent.ensures.step in
    let hand = c.push.ensures ∙ ap (λ (b : EventName). p.hand ++ b ∷ []) d.0 in
    record {
      balanced =
          subst (λ l. IsBalanced (book_with [] (e ∷ []) p) (book m (view_of p.queue) l [] [])) (sym hand)
          (refused_balanced c.calls_weigh.ensures v m (view_of p.queue) p.hand s e d.1);
      queue = grown_same (view_of p.queue);
      back = [];
      work =
          (refused_work g.X.Runner.meaning g.met.X.Runner.laws.keeps_same v m c.args.runner.now
          [] s (Entries.Dispatch e Dispatches.Spent) d.1 refl refl).0;
      cause = met_either s (Entries.Dispatch e Dispatches.Spent) v m d.1 tt;
    }
