use Rattle.std.proofs.Common.{◌≡◌, ◌∷◌, [], length, refl, sym, ap, ◌∙◌, subst, inl, inr, ⊎_elim, arith}
use Rattle.std.proofs.lemmas.List.{length-append}
use Rattle.ready_queue.specs.Calls.{view_of, capacity_of}
use Rattle.event_mgr.specs.Manager.{mgr_view}
use Rattle.dispatcher.specs.Books.{IsAccounted, PutsAll}
use Rattle.dispatcher.specs.Turns.{book_of, work_with}
use Rattle.dispatcher.proofs.Accounts.{accounted_same, accounted_then}
use Rattle.dispatcher.proofs.Within.{within_later, within_sooner}
use Rattle.dispatcher.proofs.Steps.{book, pop_step}
use Rattle.dispatcher.proofs.Works.{run_same, run_then}
use Rattle.dispatcher.proofs.Ends.{halted_then}
use Rattle.dispatcher.proofs.turning.empty_hand.Goals as goal

pub loop-init : goal.loop-init
loop-init g c = record {
  own = c.requires.ready.own;
  stop = c.requires.ready.stop;
  fits = c.requires.ready.fits;
  poller = record { same_polled = refl; same_faults = refl };
  most = c.len-end.ensures.few;
  room = λ h. absurd (omega arith);
  events = accounted_same (capacity_of c.args.queue.now) (book_of c.args.passes.now);
  emptied = inr (omega arith);
  takes = refl;
  few = omega arith;
  ran =
      run_same g.X.Runner.meaning g.met.X.Runner.laws.keeps_same
      (work_with [] [] c.args.passes.now) c.args.runner.now;
}

pub loop-preserved : goal.loop-preserved
loop-preserved g c =
    let i = c.loop.invariant in
    let cap = capacity_of c.args.queue.now in
    let p = c.loop.passes in
    let q = c.put_or_dispatch.new.passes in
    let e = c.in-Ok.ensures in
    let x = c.in-Some.event in
    let rest = c.pop_first.new.self in
    let m = mgr_view p.mgr in
    let v = view_of p.queue in
    let popped = c.in-Some.ensures in
    let long = ap length popped in
    let room = e.room in
    let four = e.few in
    let step = accounted_then cap (book m v (x ∷ rest) [] []) (book m v rest (x ∷ []) []) (book_of q)
    (pop_step cap m v x rest) e.went.events in
    let here = subst (λ l. IsAccounted cap (book m v l [] []) (book_of q)) (sym popped) step in record {
      own = e.leaves.own;
      stop = e.leaves.stop;
      fits = e.leaves.fits;
      poller = record {
        same_polled = e.leaves.poller.same_polled ∙ i.poller.same_polled;
        same_faults = e.leaves.poller.same_faults ∙ i.poller.same_faults;
      };
      most = omega arith;
      room = λ _. e.room;
      events = accounted_then cap (book_of c.args.passes.now) (book_of p) (book_of q) i.events here;
      emptied = ⊎_elim
          (λ f. inl (within_later cap (λ events. length events ≡ cap) (view_of c.args.passes.now.queue) v
          (view_of q.queue) f here.queue))
          (λ k. ⊎_elim
          (λ f. inl (within_sooner cap (λ events. length events ≡ cap) (view_of c.args.passes.now.queue) v
          (view_of q.queue) i.events.queue f))
          (λ (t : PutsAll (book m v rest (x ∷ []) []) (book_of q)).
          let a = ap length t.hand.1 in
          let b = length-append t.hand.0 q.hand in
          inr (omega arith))
          e.went.events.full)
          i.emptied;
      takes = e.takes ∙ i.takes;
      few = omega arith;
      ran =
          run_then g.X.Runner.meaning g.met.X.Runner.laws.keeps_on c.loop.ran c.in-Ok.fired
          (work_with [] [] c.args.passes.now) c.args.runner.now (work_with [] [] p) c.loop.runner
          (work_with [] [] q) c.put_or_dispatch.new.runner i.ran e.went.ran;
    }

pub returns-in-Err-clause-halted : goal.returns-in-Err-clause-halted
returns-in-Err-clause-halted g c =
    let i = c.loop.invariant in
    let cap = capacity_of c.args.queue.now in
    let p = c.loop.passes in
    let x = c.in-Some.event in
    let rest = c.pop_first.new.self in
    let m = mgr_view p.mgr in
    let v = view_of p.queue in
    let here = subst (λ l. IsAccounted cap (book m v l [] []) (book m v rest (x ∷ []) []))
    (sym c.in-Some.ensures) (pop_step cap m v x rest) in
    halted_then g.X.Runner.meaning g.met.X.Runner.laws.keeps_on cap c.loop.ran [] [] (x ∷ [])
    [] c.args.passes.now c.args.runner.now (record { mgr = p.mgr; queue = p.queue; hand = rest })
    c.loop.runner c.in-Err.halt c.put_or_dispatch.new.passes c.put_or_dispatch.new.runner
    (accounted_then cap (book_of c.args.passes.now) (book_of p) (book m v rest (x ∷ []) []) i.events here)
    i.ran c.in-Err.ensures.halted
