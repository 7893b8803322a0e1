-- To be believed: what was run and what was reported, in order.
use Rattle.std.specs.Prelude.{◌≡◌, List, ◌++◌}
use Rattle.reg_keys.specs.declared.registration.Key.{Key}
use Rattle.event_mgr.specs.Manager.{MgrView}
use Rattle.dispatcher.specs.Entries.{Firing, fired_by, reported_by}
use Rattle.poller.specs.Polls.{Report}
use Rattle.dispatcher.specs.Stripes.{AllGrown, PassShows}
use Rattle.dispatcher.specs.Meanings.{RunnerMeaning}
use Rattle.dispatcher.specs.Told.{Gains}
use Rattle.dispatcher.specs.Firings.{keys_of}

-- what a dispatcher's pass knows of the manager, and what is still to be done: what fired and is to be run,
-- and the pairs that are to be reported
pub record Work : Type 0 where
  pub mgr : MgrView
  pub due : List Firing
  pub pairs : List Report

-- From one point of a turn to another: what was due and what fired in between is what was run and
-- what is still due, in this order; and the pairs that were to be reported are those that were
-- reported and those that still are to be.
-- What fired and what was reported is what the entries that the pass gained show. A runner
-- that tells the keys that it ran has told these, and one that tells those that it was given
-- to shut has told the keys `shut`
pub record HasWorked {X P : Type 0} (meaning : RunnerMeaning X P) (shut : List Key) (a : Work)
    (x : X) (b : Work) (y : X) : Type 0 where
  pub fired : List Firing
  pub ran : List Firing
  pub reported : List Report
  pub grown : AllGrown a.mgr b.mgr
  pub shows_fired : PassShows fired_by a.mgr fired b.mgr
  pub in_order : a.due ++ fired ≡ ran ++ b.due
  pub shows_reported : PassShows reported_by a.mgr reported b.mgr
  pub each_once : a.pairs ≡ reported ++ b.pairs
  pub gains_runs : Gains (meaning.runs x) (meaning.runs y) (keys_of ran)
  pub gains_shuts : Gains (meaning.shuts x) (meaning.shuts y) shut
  pub kept : meaning.keeps x y
