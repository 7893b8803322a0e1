use Rattle.std.proofs.Common.{◌+◌, ◌∷◌, [], length, refl, sym, ap, ◌∙◌, subst, arith}
use Rattle.std.specs.Prelude.{List}
use Rattle.poller.specs.Polls.{Report}
use Rattle.ready_queue.specs.Calls.{capacity_of}
use Rattle.event_mgr.specs.Manager.{mgr_view}
use Rattle.dispatcher.specs.Turns.{book_of, work_with, HasRunKeys, HasLeftReports}
use Rattle.dispatcher.specs.declared.outcome.Halt.TheVariants.{Spent}
use Rattle.dispatcher.proofs.Accounts.{accounted_same, accounted_then}
use Rattle.dispatcher.proofs.Works.{run_same, run_then, run_more_pairs}
use Rattle.dispatcher.proofs.Ends.{left_then, left_refused}
use Rattle.dispatcher.proofs.turning.report_all.Goals as goal

pub loop-opening-init : goal.loop-opening-init
loop-opening-init g c = record {
  own = c.requires.ready.own;
  stop = c.requires.ready.stop;
  fits = c.requires.ready.fits;
  poller = record { same_polled = refl; same_faults = refl };
  events = accounted_same (capacity_of c.args.queue.now) (book_of c.args.passes.now);
  takes = refl;
  most = c.len-most.ensures.few;
  handled = omega arith;
  few = omega arith;
  ran =
      run_same g.X.Runner.meaning g.met.X.Runner.laws.keeps_same
      (work_with [] c.args.reports.now c.args.passes.now) c.args.runner.now;
}

pub loop-opening-preserved : goal.loop-opening-preserved
loop-opening-preserved g c =
    let i = c.loop-opening.invariant in
    let cap = capacity_of c.args.queue.now in
    let p0 = c.args.passes.now in
    let x0 = c.args.runner.now in
    let p = c.loop-opening.passes in
    let q1 = c.relieve.new.passes in
    let q2 = c.report_one.new.passes in
    let e1 = c.in-Ok.ensures in
    let r = c.in-Made.ensures in
    let is = c.in-Some.ensures in
    let rest = c.pop_first.new.self in
    let pair : Report = (c.in-Some.opening, c.in-Some.dirs) in
    let reports = c.loop-opening.reports in
    let f1 = e1.few in
    let fi = i.few in
    let hi = i.handled in
    let most = i.most in
    let long = ap length is in
    let y = c.relieve.new.runner in
    let one = run_then g.X.Runner.meaning g.met.X.Runner.laws.keeps_on c.loop-opening.count.ran c.in-Ok.ran
    (work_with [] c.args.reports.now p0) x0 (work_with [] reports p) c.loop-opening.runner
    (work_with [] reports q1) y i.ran
    (run_more_pairs g.X.Runner.meaning c.in-Ok.ran (mgr_view p.mgr) (mgr_view q1.mgr)
    [] [] [] [] reports c.loop-opening.runner y e1.went.ran) in
    let two = subst (λ (l : List Report).
    HasRunKeys g.X.Runner.meaning (c.loop-opening.count.ran + c.in-Ok.ran)
    (work_with [] c.args.reports.now p0) x0 (work_with [] l q1) y) is one in
    let three = run_then g.X.Runner.meaning g.met.X.Runner.laws.keeps_on
    (c.loop-opening.count.ran + c.in-Ok.ran) 0 (work_with [] c.args.reports.now p0) x0
    (work_with [] (pair ∷ rest) q1) y (work_with [] rest q2) y two
    (run_more_pairs g.X.Runner.meaning 0 (mgr_view q1.mgr) (mgr_view q2.mgr)
    [] [] (pair ∷ []) [] rest y y r.reported.1) in
    let sum = three.1 in
    record {
      own = r.own;
      stop = e1.leaves.stop;
      fits = r.fits;
      poller = record {
        same_polled = e1.leaves.poller.same_polled ∙ i.poller.same_polled;
        same_faults = e1.leaves.poller.same_faults ∙ i.poller.same_faults;
      };
      events =
          accounted_then cap (book_of p0) (book_of p) (book_of q2) i.events
          (accounted_then cap (book_of p) (book_of q1) (book_of q2) e1.went.events r.reported.0);
      takes = r.takes ∙ (e1.takes ∙ i.takes);
      most = i.most;
      handled = omega arith;
      few = omega arith;
      ran = (three.0, omega arith);
    }

pub returns-in-Err-clause-halted : goal.returns-in-Err-clause-halted
returns-in-Err-clause-halted g c =
    let i = c.loop-opening.invariant in
    let back = c.put_first.ensures ∙ sym c.in-Some.ensures in
    subst (λ (l : List Report). HasLeftReports g.X.Runner.meaning c.args.passes.now
    c.args.runner.now c.args.reports.now c.in-Err.halt c.relieve.new.passes c.relieve.new.runner l)
    (sym back) (left_then g.X.Runner.meaning g.met.X.Runner.laws.keeps_on
    (capacity_of c.args.queue.now) c.loop-opening.count.ran c.args.passes.now c.args.runner.now
    c.args.reports.now c.loop-opening.passes c.loop-opening.runner c.loop-opening.reports c.in-Err.halt
    c.relieve.new.passes c.relieve.new.runner i.events i.ran c.in-Err.ensures.halted)

pub returns-in-Spent-clause-halted : goal.returns-in-Spent-clause-halted
returns-in-Spent-clause-halted g c =
    let i = c.loop-opening.invariant in
    let cap = capacity_of c.args.queue.now in
    let p0 = c.args.passes.now in
    let p = c.loop-opening.passes in
    let q1 = c.relieve.new.passes in
    let e1 = c.in-Ok.ensures in
    let reports = c.loop-opening.reports in
    let y = c.relieve.new.runner in
    let back = c.put_first-in-Spent.ensures ∙ sym c.in-Some.ensures in
    subst (λ (l : List Report). HasLeftReports g.X.Runner.meaning p0
    c.args.runner.now c.args.reports.now Spent c.report_one.new.passes y l)
    (sym back) (left_refused g.X.Runner.meaning g.met.X.Runner.laws.keeps_on cap
    (c.loop-opening.count.ran + c.in-Ok.ran) p0 c.args.runner.now c.args.reports.now q1 y
    (c.in-Some.opening, c.in-Some.dirs) c.pop_first.new.self reports c.report_one.new.passes
    (accounted_then cap (book_of p0) (book_of p) (book_of q1) i.events e1.went.events)
    (run_then g.X.Runner.meaning g.met.X.Runner.laws.keeps_on c.loop-opening.count.ran c.in-Ok.ran
    (work_with [] c.args.reports.now p0) c.args.runner.now (work_with [] reports p) c.loop-opening.runner
    (work_with [] reports q1) y i.ran
    (run_more_pairs g.X.Runner.meaning c.in-Ok.ran (mgr_view p.mgr) (mgr_view q1.mgr)
    [] [] [] [] reports c.loop-opening.runner y e1.went.ran))
    c.in-Some.ensures c.in-Spent.ensures.reported)

pub returns-clause-ran : goal.returns-clause-ran
returns-clause-ran g c =
    let i = c.loop-opening.invariant in
    let none = c.in_default.ensures.0 in
    let long = ap length none in
    let hi = i.handled in
    let t = subst (λ (l : List Report).
    HasRunKeys g.X.Runner.meaning c.loop-opening.count.ran (work_with [] c.args.reports.now c.args.passes.now)
    c.args.runner.now (work_with [] l c.loop-opening.passes) c.loop-opening.runner) none i.ran in
    record {
      work = t.0;
      ran = t.1;
      handled = omega arith;
      none_left = c.in_default.ensures.1;
    }
