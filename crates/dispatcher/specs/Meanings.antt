-- To be believed: what contracts know of a runner, and what it owes beside its calls.
use Rattle.std.specs.Prelude.{◌≡◌, ℕ, List, Bool, Option}
use Rattle.reg_keys.specs.declared.opening.Opening.{Opening}
use Rattle.reg_keys.specs.declared.event.EventName.{EventName}
use Rattle.reg_keys.specs.declared.registration.Dirs.{Dirs}
use Rattle.reg_keys.specs.declared.registration.Key.{Key}
use Rattle.stripe_table.specs.declared.calls.ReportReply.{ReportReply}
use Rattle.stripe_table.specs.declared.calls.DispatchReply.{DispatchReply}
use Rattle.event_mgr.specs.Manager.{MgrView, IsLawful, HasReported, HasDispatched}
use Rattle.poller.specs.declared.poller.PollOut.{PollOut}
use Rattle.poller.specs.Meanings.{PollerMeaning}
use Rattle.poller.specs.Polls.{Report}
use Rattle.dispatcher.specs.Firings.{Jobs, with_fired}

-- what a runner's contracts speak of
pub record RunnerMeaning (X P : Type 0) : Type 1 where
  -- the poller that it lends, and the runner with another one in its place
  pub poller_of : X → P
  pub with_poller : X → P → X
  -- what it keeps true of itself, of what its dispatcher's pass knows of the manager, and of the jobs
  -- that fired and are still to be run
  pub fits : X → MgrView → Jobs → Type 0
  -- what stays of a runner, whatever a turn does with it
  pub keeps : X → X → Type 0
  -- the code where the last run stopped, else none
  pub stop : X → Option ℕ
  -- the keys that were run, in order, where they are told
  pub runs : X → Option (List Key)
  -- the keys that `shut` was given, in order, where they are told
  pub shuts : X → Option (List Key)

-- what a runner owes beside its calls
pub record RunnerLaws {T X P : Type 0} (tag : T → List (List ℕ)) (told : PollerMeaning P)
    (meaning : RunnerMeaning X P) : Type 0 where
  -- a poller that was lent is the runner's afterwards, and nothing else of the runner has changed
  pub lent : (r : X) (p : P) → meaning.poller_of (meaning.with_poller r p) ≡ p
  pub lent_stop : (r : X) (p : P) → meaning.stop (meaning.with_poller r p) ≡ meaning.stop r
  pub lent_runs : (r : X) (p : P) → meaning.runs (meaning.with_poller r p) ≡ meaning.runs r
  pub lent_shuts : (r : X) (p : P) → meaning.shuts (meaning.with_poller r p) ≡ meaning.shuts r
  -- what stays, stays over several calls, and over a poll
  pub keeps_same : (r : X) → meaning.keeps r r
  pub keeps_on : (r s t : X) → meaning.keeps r s → meaning.keeps s t → meaning.keeps r t
  pub keeps_polled : (r : X) (idle : Bool) (result : PollOut) (out : List Report) (p : P)
      → told.polls (meaning.poller_of r) idle result out p → meaning.keeps r (meaning.with_poller r p)
  -- `fits` stays where the lent poller changed by a poll alone
  pub fits_polled : (r : X) (idle : Bool) (result : PollOut)
      (out : List Report) (p : P) (v : MgrView) (jobs : Jobs)
      → told.polls (meaning.poller_of r) idle result out p → meaning.fits r v jobs
      → meaning.fits (meaning.with_poller r p) v jobs
  -- `fits` stays where the dispatcher made a report
  pub fits_reported : (r : X) (o : Opening) (ds : Dirs) (v : MgrView)
      (reply : ReportReply) (w : MgrView) (jobs : Jobs)
      → IsLawful v → IsLawful w → HasReported o ds v reply w → meaning.fits r v jobs → meaning.fits r w jobs
  -- `fits` stays where the dispatcher dispatched an event, with the jobs that it fired after the others
  pub fits_dispatched : (r : X) (e : EventName) (v : MgrView)
      (reply : DispatchReply T) (w : MgrView) (jobs : Jobs)
      → IsLawful v → IsLawful w → HasDispatched tag e v reply w → meaning.fits r v jobs
      → meaning.fits r w (with_fired tag e reply jobs)
