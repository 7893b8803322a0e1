-- Each kind of step of a turn does its part of the work.
use Rattle.std.proofs.Common.{◌≡◌, ℕ, List, [], ◌∷◌, refl}
use Rattle.std.specs.Prelude.{Option}
use Rattle.std.proofs.lemmas.List.{append-nil}
use Rattle.reg_keys.specs.declared.opening.Opening.{Opening}
use Rattle.reg_keys.specs.declared.event.EventName.{EventName}
use Rattle.reg_keys.specs.declared.registration.Key.{Key}
use Rattle.reg_keys.specs.declared.registration.Dirs.{Dirs}
use Rattle.reg_keys.specs.declared.entry.FiredKey.{FiredKey}
use Rattle.reg_keys.specs.declared.entry.Entry.{Entry}
use Rattle.reg_keys.specs.declared.entry.Entry.TheVariants as Entries
use Rattle.reg_keys.specs.declared.entry.ReportOutcome.{ReportOutcome}
use Rattle.reg_keys.specs.declared.entry.DispatchOutcome.TheVariants as Dispatches
use Rattle.poller.specs.Polls.{Report}
use Rattle.event_mgr.specs.Stripes.{stripe_of}
use Rattle.event_mgr.specs.Manager.{MgrView, EnteredAt, SpentAt}
use Rattle.dispatcher.specs.declared.runner.AfterRun.{AfterRun}
use Rattle.dispatcher.specs.Entries.{Firing, firings, fired_by, reported_by}
use Rattle.dispatcher.specs.Meanings.{RunnerMeaning}
use Rattle.dispatcher.specs.Told.{Gains}
use Rattle.dispatcher.specs.Runs.{RunMade}
use Rattle.dispatcher.specs.Work.{HasWorked}
use Rattle.dispatcher.proofs.Lists.{gains_none, gains_as}
use Rattle.dispatcher.specs.Laws.{all_grown_same, entered_grown, spent_grown, run_grown}
use Rattle.dispatcher.proofs.Shown.{shows_same, shows_entered, shows_nothing, shows_spent, of_stripe_here}
use Rattle.dispatcher.proofs.Shown.{of_stripe_there, run_fires_none, run_reports_none}
use Rattle.dispatcher.proofs.Works.{work, RunKeys}

module _ {X P : Type 0} (meaning : RunnerMeaning X P) (same : (x : X) → meaning.keeps x x) where
  -- an event was dispatched, and what it ran is to be run
  pub fire_step : (v w : MgrView) (x : X) (e : EventName) (rs : List FiredKey) (n : Option EventName)
      → EnteredAt (stripe_of e.opening.fd) (Entries.Dispatch e (Dispatches.Ran rs n)) v w
      → RunKeys meaning 0 (work v [] []) x (work w (firings e.opening rs) []) x
  fire_step v w x e rs n a =
      let s = stripe_of e.opening.fd in
      let t : Entry = Entries.Dispatch e (Dispatches.Ran rs n) in (
        record {
          fired = firings e.opening rs;
          ran = [];
          reported = [];
          grown = entered_grown s t v w a;
          shows_fired =
              shows_entered fired_by s t v w a (of_stripe_here e.opening rs)
              (λ k ne. of_stripe_there e.opening k rs ne);
          in_order = refl;
          shows_reported = shows_nothing reported_by s t v w a refl;
          each_once = refl;
          gains_runs = gains_none (meaning.runs x);
          gains_shuts = gains_none (meaning.shuts x);
          kept = same x;
        },
        refl,
      )

  -- a call was entered that ran nothing and reported nothing
  pub idle_step : (v w : MgrView) (x : X) (ps : List Report) (s : ℕ) (t : Entry) → EnteredAt s t v w
      → fired_by t ≡ [] → reported_by t ≡ [] → RunKeys meaning 0 (work v [] ps) x (work w [] ps) x
  idle_step v w x ps s t a f r = (
    record {
      fired = [];
      ran = [];
      reported = [];
      grown = entered_grown s t v w a;
      shows_fired = shows_nothing fired_by s t v w a f;
      in_order = refl;
      shows_reported = shows_nothing reported_by s t v w a r;
      each_once = refl;
      gains_runs = gains_none (meaning.runs x);
      gains_shuts = gains_none (meaning.shuts x);
      kept = same x;
    },
    refl,
  )

  -- no call was entered
  pub spent_step : (v w : MgrView) (x : X) (ps : List Report) (s : ℕ) → SpentAt s v w
      → RunKeys meaning 0 (work v [] ps) x (work w [] ps) x
  spent_step v w x ps s a = (
    record {
      fired = [];
      ran = [];
      reported = [];
      grown = spent_grown s v w a;
      shows_fired = shows_spent fired_by s v w a;
      in_order = refl;
      shows_reported = shows_spent reported_by s v w a;
      each_once = refl;
      gains_runs = gains_none (meaning.runs x);
      gains_shuts = gains_none (meaning.shuts x);
      kept = same x;
    },
    refl,
  )

  -- a pair was reported
  pub report_step : (v w : MgrView) (x : X) (o : Opening) (ds : Dirs) (r : ReportOutcome)
      → EnteredAt (stripe_of o.fd) (Entries.Report o ds r) v w
      → RunKeys meaning 0 (work v [] ((o, ds) ∷ [])) x (work w [] []) x
  report_step v w x o ds r a =
      let s = stripe_of o.fd in
      let t : Entry = Entries.Report o ds r in (
        record {
          fired = [];
          ran = [];
          reported = (o, ds) ∷ [];
          grown = entered_grown s t v w a;
          shows_fired = shows_nothing fired_by s t v w a refl;
          in_order = refl;
          shows_reported =
              shows_entered reported_by s t v w a (of_stripe_here o (ds ∷ []))
              (λ k ne. of_stripe_there o k (ds ∷ []) ne);
          each_once = refl;
          gains_runs = gains_none (meaning.runs x);
          gains_shuts = gains_none (meaning.shuts x);
          kept = same x;
        },
        refl,
      )

module _ {X P : Type 0} (meaning : RunnerMeaning X P) where
  -- the first of what fired was run
  pub run_step : (v w : MgrView) (x y : X) (f : Firing) (fs : List Firing) (r : AfterRun) → RunMade v r w
      → Gains (meaning.runs x) (meaning.runs y) (f.1.key ∷ []) → meaning.shuts y ≡ meaning.shuts x
      → meaning.keeps x y → RunKeys meaning 1 (work v (f ∷ fs) []) x (work w fs []) y
  run_step v w x y f fs r k gains stay kept = (
    record {
      fired = [];
      ran = f ∷ [];
      reported = [];
      grown = run_grown v r w k;
      shows_fired = run_fires_none v r w k;
      in_order = append-nil (f ∷ fs);
      shows_reported = run_reports_none v r w k;
      each_once = refl;
      gains_runs = gains;
      gains_shuts = gains_as (meaning.shuts x) (meaning.shuts y) stay;
      kept = kept;
    },
    refl,
  )

  -- the jobs of what fired were shut
  pub shut_step : (v : MgrView) (x y : X) (back : List Firing) (shut : List Key)
      → meaning.runs y ≡ meaning.runs x → Gains (meaning.shuts x) (meaning.shuts y) shut → meaning.keeps x y
      → HasWorked meaning shut (work v back []) x (work v back []) y
  shut_step v x y back shut stay gains kept = record {
    fired = [];
    ran = [];
    reported = [];
    grown = all_grown_same v;
    shows_fired = shows_same fired_by v v (λ t. refl);
    in_order = append-nil back;
    shows_reported = shows_same reported_by v v (λ t. refl);
    each_once = refl;
    gains_runs = gains_as (meaning.runs x) (meaning.runs y) stay;
    gains_shuts = gains;
    kept = kept;
  }

  -- the lent poller polled
  pub poll_step : (v : MgrView) (x y : X) (ps : List Report) → meaning.runs y ≡ meaning.runs x
      → meaning.shuts y ≡ meaning.shuts x → meaning.keeps x y
      → RunKeys meaning 0 (work v [] ps) x (work v [] ps) y
  poll_step v x y ps stay stay' kept = (
    record {
      fired = [];
      ran = [];
      reported = [];
      grown = all_grown_same v;
      shows_fired = shows_same fired_by v v (λ t. refl);
      in_order = refl;
      shows_reported = shows_same reported_by v v (λ t. refl);
      each_once = refl;
      gains_runs = gains_as (meaning.runs x) (meaning.runs y) stay;
      gains_shuts = gains_as (meaning.shuts x) (meaning.shuts y) stay';
      kept = kept;
    },
    refl,
  )
