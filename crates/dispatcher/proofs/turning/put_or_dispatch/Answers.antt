use Rattle.std.proofs.Common.{◌∷◌, [], refl, subst, arith}
use Rattle.ready_queue.specs.declared.rule.Move.TheVariants.{Put}
use Rattle.ready_queue.specs.Calls.{view_of, capacity_of}
use Rattle.event_mgr.specs.Manager.{mgr_view}
use Rattle.dispatcher.specs.Books.{IsAccounted}
use Rattle.dispatcher.specs.Turns.{book_of, book_with, work_with}
use Rattle.dispatcher.proofs.Accounts.{accounted_then}
use Rattle.dispatcher.proofs.Steps.{book, put_step, next_step}
use Rattle.dispatcher.proofs.Weighs.{taken_weighs}
use Rattle.dispatcher.proofs.Works.{run_same}
use Rattle.dispatcher.proofs.Ends.{ok_map}
use Rattle.dispatcher.proofs.turning.put_or_dispatch.Goals as goal

pub returns-in-Put-clause-takes : goal.returns-in-Put-clause-takes
returns-in-Put-clause-takes g c =
    let k = taken_weighs (λ _. 1) (capacity_of c.args.queue.now) (view_of c.args.passes.now.queue)
    (view_of c.put.new.pass) (Put c.args.event) c.in-Put.ensures.put in
    omega arith

pub returns-in-Put-clause-went : goal.returns-in-Put-clause-went
returns-in-Put-clause-went g c = record {
  events =
      let p = c.args.passes.now in
      put_step (capacity_of c.args.queue.now) (mgr_view p.mgr) (view_of p.queue)
      (view_of c.put.new.pass) p.hand c.args.event [] [] c.in-Put.ensures.put;
  ran =
      run_same g.X.Runner.meaning g.met.X.Runner.laws.keeps_same
      (work_with [] [] c.args.passes.now) c.args.runner.now;
}

pub returns-in-Put-clause-leaves : goal.returns-in-Put-clause-leaves
returns-in-Put-clause-leaves g c = record {
  own = (c.requires.ready.own.0, c.put.ensures.own);
  stop = c.requires.ready.stop;
  fits = c.requires.ready.fits;
  poller = record { same_polled = refl; same_faults = refl };
}

pub returns-in-Full-clause-went : goal.returns-in-Full-clause-went
returns-in-Full-clause-went g c =
    let p = c.args.passes.now in
    let cap = capacity_of c.args.queue.now in
    let m = mgr_view p.mgr in
    let q = view_of c.put.new.pass in
    let f = c.in-Full.ensures.put in
    ok_map _ _ c.dispatch.result (λ n k. record {
      events =
          accounted_then cap (book_with (c.args.event ∷ []) [] p) (book m q p.hand [] (c.args.event ∷ []))
          (book_of c.dispatch.new.passes) (next_step cap m (view_of p.queue) q p.hand c.args.event f.1)
          (subst (λ b. IsAccounted cap (book m q p.hand [] (b ∷ [])) (book_of c.dispatch.new.passes))
          f.0 k.events);
      ran = k.ran;
    }) c.dispatch.ensures.went
