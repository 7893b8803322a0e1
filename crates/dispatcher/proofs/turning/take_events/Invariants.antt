use Rattle.std.proofs.Common.{◌≡◌, ◌≤◌, ◌+◌, ◌*◌, [], None}
use Rattle.ready_queue.specs.Calls.{capacity_of}
use Rattle.event_mgr.specs.Manager.{mgr_view}
use Rattle.dispatcher.specs.declared.hand.TheConstants.{HAND}
use Rattle.dispatcher.specs.Books.{IsAccounted, taken}
use Rattle.dispatcher.specs.Runs.{LeavesPolls}
use Rattle.dispatcher.specs.Turns.{AreOf, book_of, work_with, HasRunKeys}
use Rattle.dispatcher.proofs.turning.take_events.Given as goal

abbrev pub invariant-loop : goal.invariant-loop
invariant-loop g l = record {
  own : AreOf l.mgr l.queue l.passes;
  stop : g.X.Runner.meaning.stop l.runner ≡ None;
  fits : g.X.Runner.meaning.fits l.runner (mgr_view l.passes.mgr) [];
  poller : LeavesPolls g.X.Poller.Poller.meaning (g.X.Runner.meaning.poller_of l.initial.runner)
      (g.X.Runner.meaning.poller_of l.runner);
  events : IsAccounted (capacity_of l.queue) (book_of l.initial.passes) (book_of l.passes);
  takes : taken (λ _. 1) (book_of l.passes) ≡ taken (λ _. 1) (book_of l.initial.passes) + l.counter;
  handled : l.count.handled ≡ l.counter;
  few : l.count.ran ≤ (4 * HAND + 4) * l.counter;
  ran : HasRunKeys g.X.Runner.meaning l.count.ran (work_with [] [] l.initial.passes) l.initial.runner
      (work_with [] [] l.passes) l.runner;
}
