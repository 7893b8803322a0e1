use Rattle.std.proofs.Common.{◌≡◌, ◌++◌, map, length}
use Rattle.std.specs.Prelude.{List}
use Rattle.reg_keys.specs.declared.opening.Opening.{Opening}
use Rattle.reg_keys.specs.declared.registration.Key.{Key}
use Rattle.stripe_table.specs.Calls.{fired_key}
use Rattle.event_mgr.specs.Manager.{mgr_view}
use Rattle.dispatcher.specs.Entries.{firings}
use Rattle.dispatcher.specs.Told.{Gains}
use Rattle.dispatcher.specs.Firings.{jobs_of, job_keys_of}
use Rattle.dispatcher.specs.Runs.{LeavesPolls}
use Rattle.dispatcher.proofs.dispatch.shut_all.Given as goal

abbrev pub invariant-loop-fired : goal.invariant-loop-fired
invariant-loop-fired g l = record {
  fits : (o : Opening) × g.X.Runner.meaning.fits l.runner (mgr_view l.passes.mgr)
      (jobs_of (firings o (map (fired_key g.T.Load.tag) l.list)));
  stop : g.X.Runner.meaning.stop l.runner ≡ g.X.Runner.meaning.stop l.initial.runner;
  runs : g.X.Runner.meaning.runs l.runner ≡ g.X.Runner.meaning.runs l.initial.runner;
  shuts : (o : Opening) → (done : List Key)
      × Gains (g.X.Runner.meaning.shuts l.initial.runner) (g.X.Runner.meaning.shuts l.runner) done
      × (done ++ job_keys_of (firings o (map (fired_key g.T.Load.tag) l.list))
      ≡ job_keys_of (firings o (map (fired_key g.T.Load.tag) l.initial.list)));
  keeps : g.X.Runner.meaning.keeps l.initial.runner l.runner;
  poller : LeavesPolls g.X.Poller.Poller.meaning (g.X.Runner.meaning.poller_of l.initial.runner)
      (g.X.Runner.meaning.poller_of l.runner);
}

abbrev pub decreases-loop-fired : goal.decreases-loop-fired
decreases-loop-fired g l = length l.list
