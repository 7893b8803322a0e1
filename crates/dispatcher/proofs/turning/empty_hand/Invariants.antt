use Rattle.std.proofs.Common.{◌≡◌, ◌<◌, ◌≤◌, ◌+◌, ◌*◌, ◌⊎◌, [], length, None}
use Rattle.ready_queue.specs.Calls.{view_of, capacity_of}
use Rattle.event_mgr.specs.Manager.{mgr_view}
use Rattle.dispatcher.specs.declared.hand.TheConstants.{HAND}
use Rattle.dispatcher.specs.Books.{IsAccounted, WasFullWithin}
use Rattle.dispatcher.specs.Runs.{LeavesPolls}
use Rattle.dispatcher.specs.Turns.{AreOf, book_of, work_with, TakesNone, HasRunKeys}
use Rattle.dispatcher.proofs.turning.empty_hand.Given as goal

abbrev pub invariant-loop : goal.invariant-loop
invariant-loop g l = record {
  own : AreOf l.mgr l.queue l.passes;
  stop : g.X.Runner.meaning.stop l.runner ≡ None;
  fits : g.X.Runner.meaning.fits l.runner (mgr_view l.passes.mgr) [];
  poller : LeavesPolls g.X.Poller.Poller.meaning (g.X.Runner.meaning.poller_of l.initial.runner)
      (g.X.Runner.meaning.poller_of l.runner);
  most : length l.passes.hand ≤ HAND;
  room : 0 < l.counter → length l.passes.hand < HAND;
  events : IsAccounted (capacity_of l.queue) (book_of l.initial.passes) (book_of l.passes);
  emptied : WasFullWithin (capacity_of l.queue) (view_of l.initial.passes.queue) (view_of l.passes.queue)
      ⊎ (length l.passes.hand + l.counter ≤ length l.initial.passes.hand);
  takes : TakesNone l.initial.passes l.passes;
  few : l.ran ≤ 4 * l.counter;
  ran : HasRunKeys g.X.Runner.meaning l.ran (work_with [] [] l.initial.passes) l.initial.runner
      (work_with [] [] l.passes) l.runner;
}
