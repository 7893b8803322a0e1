-- What follows from a poll of the lent poller.
use Rattle.std.specs.Prelude.{List, Bool}
use Rattle.std.proofs.Common.{◌≡◌, ℕ, [], sym, ap, ◌∙◌, subst}
use Rattle.event_mgr.specs.Manager.{MgrView}
use Rattle.poller.specs.declared.poller.PollOut.{PollOut}
use Rattle.poller.specs.declared.poller.PollOut.TheVariants.{Failed}
use Rattle.poller.specs.Faults.{PollerFaults, PollFaults}
use Rattle.poller.specs.Polls.{Report, polled_after}
use Rattle.poller.specs.Meanings.{PollerMeaning}
use Rattle.dispatcher.specs.Firings.{Jobs}
use Rattle.dispatcher.specs.Meanings.{RunnerMeaning, RunnerLaws}
use Rattle.dispatcher.specs.Turns.{HasPolledOnce}

-- what a poll says of the runner before and after it
pub record Polled {X P : Type 0} (meaning : RunnerMeaning X P) (told : PollerMeaning P) (idle : Bool)
    (x : X) (result : PollOut) (pairs : List Report) (y : X) : Type 0 where
  pub poll : told.polls (meaning.poller_of x) idle result pairs (meaning.poller_of y)
  pub none : result ≡ Failed → pairs ≡ []
  pub faulted : PollFaults result (told.faults (meaning.poller_of x)) (told.faults (meaning.poller_of y))
  pub gave : told.polled (meaning.poller_of y) ≡ polled_after result (told.polled (meaning.poller_of x)) pairs
  pub same_stop : meaning.stop y ≡ meaning.stop x
  pub same_runs : meaning.runs y ≡ meaning.runs x
  pub same_shuts : meaning.shuts y ≡ meaning.shuts x
  pub kept : meaning.keeps x y
  pub fits : (v : MgrView) (jobs : Jobs) → meaning.fits x v jobs → meaning.fits y v jobs

pub polled_once : {T X P : Type 0} (tag : T → List (List ℕ))
    (told : PollerMeaning P) (meaning : RunnerMeaning X P)
    → RunnerLaws tag told meaning → (idle : Bool) (x : X) (result : PollOut) (pairs : List Report) (y : X)
    → HasPolledOnce meaning told idle x result pairs y → Polled meaning told idle x result pairs y
polled_once {T} {X} {P} tag told meaning laws idle x result pairs y h =
    let polls : told.polls (meaning.poller_of x) idle result pairs h.after =
    subst (λ (q : P). told.polls q idle result pairs h.after) h.was_lent h.poll in
    let back : meaning.poller_of y ≡ h.after = ap meaning.poller_of h.others ∙ laws.lent x h.after in record {
      poll = subst (λ (q : P). told.polls (meaning.poller_of x) idle result pairs q) (sym back) polls;
      none = h.none;
      faulted =
          subst (λ (f : PollerFaults). PollFaults result (told.faults (meaning.poller_of x)) f)
          (sym (ap told.faults back))
          (subst (λ (f : PollerFaults). PollFaults result f (told.faults h.after))
          (ap told.faults h.was_lent) h.faulted);
      gave =
          ap told.polled back
          ∙ (h.gave ∙ ap (λ (q : P). polled_after result (told.polled q) pairs) h.was_lent);
      same_stop = ap meaning.stop h.others ∙ laws.lent_stop x h.after;
      same_runs = ap meaning.runs h.others ∙ laws.lent_runs x h.after;
      same_shuts = ap meaning.shuts h.others ∙ laws.lent_shuts x h.after;
      kept =
          subst (λ (z : X). meaning.keeps x z) (sym h.others)
          (laws.keeps_polled x idle result pairs h.after polls);
      fits =
          λ v jobs f. subst (λ (z : X). meaning.fits z v jobs) (sym h.others)
          (laws.fits_polled x idle result pairs h.after v jobs polls f);
    }
