use Rattle.std.proofs.Common.{◌≡◌, ◌≤◌, ◌+◌, ◌*◌, [], length, None}
use Rattle.ready_queue.specs.Calls.{capacity_of}
use Rattle.event_mgr.specs.Manager.{mgr_view}
use Rattle.dispatcher.specs.declared.hand.TheConstants.{HAND}
use Rattle.dispatcher.specs.Books.{IsAccounted}
use Rattle.dispatcher.specs.Runs.{LeavesPolls}
use Rattle.dispatcher.specs.Turns.{AreOf, book_of, work_with, TakesNone, HasRunKeys}
use Rattle.dispatcher.proofs.turning.report_all.Given as goal

abbrev pub invariant-loop-opening : goal.invariant-loop-opening
invariant-loop-opening g l = record {
  own : AreOf l.mgr l.queue l.passes;
  stop : g.X.Runner.meaning.stop l.runner ≡ None;
  fits : g.X.Runner.meaning.fits l.runner (mgr_view l.passes.mgr) [];
  poller : LeavesPolls g.X.Poller.Poller.meaning (g.X.Runner.meaning.poller_of l.initial.runner)
      (g.X.Runner.meaning.poller_of l.runner);
  events : IsAccounted (capacity_of l.queue) (book_of l.initial.passes) (book_of l.passes);
  takes : TakesNone l.initial.passes l.passes;
  most : length l.initial.reports ≤ 1024;
  handled : l.count.handled + length l.reports ≡ length l.initial.reports;
  few : l.count.ran ≤ 4 * HAND * l.count.handled;
  ran : HasRunKeys g.X.Runner.meaning l.count.ran (work_with [] l.initial.reports l.initial.passes)
      l.initial.runner (work_with [] l.reports l.passes) l.runner;
}

abbrev pub decreases-loop-opening : goal.decreases-loop-opening
decreases-loop-opening g l = length l.reports
