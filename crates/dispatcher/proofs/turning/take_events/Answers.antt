use Rattle.std.proofs.Common.{◌≡◌, ◌+◌, ◌∷◌, [], refl, sym, ap, ◌∙◌, subst, inr, arith}
use Rattle.turn_cell.specs.View.{own_entries}
use Rattle.ready_queue.specs.Weights.{weigh_taken}
use Rattle.turn_cell.specs.declared.view.View.{View}
use Rattle.ready_queue.specs.declared.rule.Move.{Move}
use Rattle.ready_queue.specs.declared.rule.Move.TheVariants.{Taken}
use Rattle.ready_queue.specs.Calls.{view_of, capacity_of}
use Rattle.event_mgr.specs.Manager.{mgr_view}
use Rattle.dispatcher.specs.Books.{IsAccounted}
use Rattle.dispatcher.specs.Turns.{book_of, work_with}
use Rattle.dispatcher.proofs.Accounts.{accounted_same, accounted_then}
use Rattle.dispatcher.proofs.Within.{within_sooner, empty_here}
use Rattle.dispatcher.specs.Laws.{grown_then}
use Rattle.dispatcher.proofs.Weighs.{taken_weighs}
use Rattle.dispatcher.proofs.Steps.{book, take_step}
use Rattle.dispatcher.proofs.Works.{run_same, run_then}
use Rattle.dispatcher.proofs.Ends.{halted_then}
use Rattle.dispatcher.proofs.turning.take_events.Goals as goal

pub loop-init : goal.loop-init
loop-init g c = record {
  own = c.requires.ready.own;
  stop = c.requires.ready.stop;
  fits = c.requires.ready.fits;
  poller = record { same_polled = refl; same_faults = refl };
  events = accounted_same (capacity_of c.args.queue.now) (book_of c.args.passes.now);
  takes = omega arith;
  handled = omega arith;
  few = omega arith;
  ran =
      run_same g.X.Runner.meaning g.met.X.Runner.laws.keeps_same
      (work_with [] [] c.args.passes.now) c.args.runner.now;
}

pub loop-preserved : goal.loop-preserved
loop-preserved g c =
    let i = c.loop.invariant in
    let cap = capacity_of c.args.queue.now in
    let p0 = c.args.passes.now in
    let p = c.loop.passes in
    let q1 = c.relieve.new.passes in
    let q2 = c.dispatch.new.passes in
    let e1 = c.in-Ok.ensures in
    let t = c.in-Taken.ensures.take in
    let e2 = c.in-Ok-dispatch.ensures in
    let x = c.in-Taken.event in
    let w = view_of c.take.new.pass in
    let f1 = e1.few in
    let f2 = e2.few in
    let t1 = e1.takes in
    let t2 = e2.takes in
    let t3 = taken_weighs (λ _. 1) cap (view_of q1.queue) w (Taken x) t in
    record {
      own = e2.leaves.own;
      stop = e2.leaves.stop;
      fits = e2.leaves.fits;
      poller = record {
        same_polled = e2.leaves.poller.same_polled ∙ (e1.leaves.poller.same_polled ∙ i.poller.same_polled);
        same_faults = e2.leaves.poller.same_faults ∙ (e1.leaves.poller.same_faults ∙ i.poller.same_faults);
      };
      events =
          accounted_then cap (book_of p0) (book_of p) (book_of q2) i.events
          (accounted_then cap (book_of p) (book_of q1) (book_of q2) e1.went.events
          (accounted_then cap (book_of q1) (book (mgr_view q1.mgr) w q1.hand [] (x ∷ [])) (book_of q2)
          (take_step cap (mgr_view q1.mgr) (view_of q1.queue) w q1.hand x t) e2.went.events));
      takes = omega arith;
      handled = omega arith;
      few = omega arith;
      ran =
          run_then g.X.Runner.meaning g.met.X.Runner.laws.keeps_on
          (c.loop.count.ran + c.in-Ok.ran) c.in-Ok-dispatch.ran (work_with [] [] p0) c.args.runner.now
          (work_with [] [] q1) c.relieve.new.runner (work_with [] [] q2) c.dispatch.new.runner
          (run_then g.X.Runner.meaning g.met.X.Runner.laws.keeps_on c.loop.count.ran c.in-Ok.ran
          (work_with [] [] p0) c.args.runner.now (work_with [] [] p) c.loop.runner
          (work_with [] [] q1) c.relieve.new.runner i.ran e1.went.ran) e2.went.ran;
    }

pub returns-in-Err-clause-halted : goal.returns-in-Err-clause-halted
returns-in-Err-clause-halted g c = let i = c.loop.invariant in
    halted_then g.X.Runner.meaning g.met.X.Runner.laws.keeps_on (capacity_of c.args.queue.now)
    c.loop.count.ran [] [] [] [] c.args.passes.now c.args.runner.now c.loop.passes c.loop.runner c.in-Err.halt
    c.relieve.new.passes c.relieve.new.runner i.events i.ran c.in-Err.ensures.halted

pub returns-in-Err-dispatch-clause-halted : goal.returns-in-Err-dispatch-clause-halted
returns-in-Err-dispatch-clause-halted g c =
    let i = c.loop.invariant in
    let cap = capacity_of c.args.queue.now in
    let p0 = c.args.passes.now in
    let p = c.loop.passes in
    let q1 = c.relieve.new.passes in
    let e1 = c.in-Ok.ensures in
    let x = c.in-Taken.event in
    let w = view_of c.take.new.pass in
    halted_then g.X.Runner.meaning g.met.X.Runner.laws.keeps_on cap (c.loop.count.ran + c.in-Ok.ran)
    [] [] [] (x ∷ []) p0 c.args.runner.now (record { mgr = q1.mgr; queue = c.take.new.pass; hand = q1.hand })
    c.relieve.new.runner c.in-Err-dispatch.halt c.dispatch.new.passes c.dispatch.new.runner
    (accounted_then cap (book_of p0) (book_of p) (book (mgr_view q1.mgr) w q1.hand [] (x ∷ [])) i.events
    (accounted_then cap (book_of p) (book_of q1) (book (mgr_view q1.mgr) w q1.hand [] (x ∷ [])) e1.went.events
    (take_step cap (mgr_view q1.mgr) (view_of q1.queue) w q1.hand x c.in-Taken.ensures.take)))
    (run_then g.X.Runner.meaning g.met.X.Runner.laws.keeps_on c.loop.count.ran c.in-Ok.ran
    (work_with [] [] p0) c.args.runner.now (work_with [] [] p) c.loop.runner
    (work_with [] [] q1) c.relieve.new.runner i.ran e1.went.ran)
    c.in-Err-dispatch.ensures.halted

pub returns-in_default-clause-takes : goal.returns-in_default-clause-takes
returns-in_default-clause-takes g c =
    let i = c.loop.invariant in
    let cap = capacity_of c.args.queue.now in
    let q1 = c.relieve.new.passes in
    let e1 = c.in-Ok.ensures in
    let v0 = view_of c.args.passes.now.queue in
    let v1 = view_of q1.queue in
    let w = view_of c.take.new.pass in
    inr (within_sooner cap (λ events. events ≡ []) v0 v1 w
    (grown_then v0 (view_of c.loop.passes.queue) v1 i.events.queue e1.went.events.queue)
    (empty_here cap v1 w c.in_default.ensures.take))

pub returns-in_default-clause-counted : goal.returns-in_default-clause-counted
returns-in_default-clause-counted g c =
    let i = c.loop.invariant in
    let t = i.takes in
    let h = i.handled in
    let e = c.in-Ok.ensures.takes in
    let s = ap (λ (z : View Move). weigh_taken (λ _. 1) (own_entries z)) c.in_default.ensures.take.same in
    omega arith

pub returns-clause-counted : goal.returns-clause-counted
returns-clause-counted g c =
    let i = c.loop.invariant in
    let t = i.takes in
    let h = i.handled in omega arith

pub returns-in_default-clause-went : goal.returns-in_default-clause-went
returns-in_default-clause-went g c = record {
  events =
      let i = c.loop.invariant in
      let cap = capacity_of c.args.queue.now in
      let q1 = c.relieve.new.passes in
      let e1 = c.in-Ok.ensures in
      let t = c.in_default.ensures.take in
      accounted_then cap (book_of c.args.passes.now) (book_of c.loop.passes)
      (book (mgr_view q1.mgr) (view_of c.take.new.pass) q1.hand [] []) i.events
      (subst
      (λ (z : View Move). IsAccounted cap (book_of c.loop.passes) (book (mgr_view q1.mgr) z q1.hand [] []))
      (sym t.same) e1.went.events);
  ran = let i = c.loop.invariant in
      run_then g.X.Runner.meaning g.met.X.Runner.laws.keeps_on c.loop.count.ran c.in-Ok.ran
      (work_with [] [] c.args.passes.now) c.args.runner.now (work_with [] [] c.loop.passes) c.loop.runner
      (work_with [] [] c.relieve.new.passes) c.relieve.new.runner i.ran c.in-Ok.ensures.went.ran;
}
