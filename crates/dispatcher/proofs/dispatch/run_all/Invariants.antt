use Rattle.std.proofs.Common.{◌≡◌, ◌<◌, ◌+◌, ℕ, [], map, length, None}
use Rattle.reg_keys.specs.declared.opening.Opening.{Opening}
use Rattle.ready_queue.specs.Calls.{capacity_of}
use Rattle.stripe_table.specs.Calls.{fired_key}
use Rattle.event_mgr.specs.Manager.{mgr_view}
use Rattle.dispatcher.specs.declared.hand.TheConstants.{HAND}
use Rattle.dispatcher.specs.Entries.{firings}
use Rattle.dispatcher.specs.Books.{IsAccounted}
use Rattle.dispatcher.specs.Firings.{jobs_of}
use Rattle.dispatcher.specs.Runs.{LeavesPolls}
use Rattle.dispatcher.specs.Turns.{AreOf, book_of, work_with, TakesNone, HasRunKeys}
use Rattle.dispatcher.proofs.dispatch.run_all.Given as goal

abbrev pub invariant-loop-fired : goal.invariant-loop-fired
invariant-loop-fired g l = record {
  own : AreOf l.mgr l.queue l.passes;
  stop : g.X.Runner.meaning.stop l.runner ≡ None;
  room : length l.passes.hand < HAND;
  fits : (o : Opening) × g.X.Runner.meaning.fits l.runner (mgr_view l.passes.mgr)
      (jobs_of (firings o (map (fired_key g.T.Load.tag) l.list)));
  poller : LeavesPolls g.X.Poller.Poller.meaning (g.X.Runner.meaning.poller_of l.initial.runner)
      (g.X.Runner.meaning.poller_of l.runner);
  events : IsAccounted (capacity_of l.queue) (book_of l.initial.passes) (book_of l.passes);
  takes : TakesNone l.initial.passes l.passes;
  ran : (o : Opening) → (n : ℕ) × (n + length l.list ≡ length l.initial.list)
      × HasRunKeys g.X.Runner.meaning n
      (work_with (firings o (map (fired_key g.T.Load.tag) l.initial.list)) [] l.initial.passes)
      l.initial.runner (work_with (firings o (map (fired_key g.T.Load.tag) l.list)) [] l.passes) l.runner;
}

abbrev pub decreases-loop-fired : goal.decreases-loop-fired
decreases-loop-fired g l = length l.list
