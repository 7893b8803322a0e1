use Rattle.std.proofs.Common.{◌++◌, ◌∷◌, [], List, map, refl, sym, ap, ◌∙◌, subst}
use Rattle.std.proofs.lemmas.List.{append_assoc, append-nil}
use Rattle.reg_keys.specs.declared.registration.Key.{Key}
use Rattle.stripe_table.specs.Calls.{fired_key, kind_of_job}
use Rattle.event_mgr.specs.Manager.{mgr_view}
use Rattle.dispatcher.specs.Entries.{firings}
use Rattle.dispatcher.specs.Told.{Gains}
use Rattle.dispatcher.specs.Firings.{jobs_of, job_of, keys_of, job_keys_of}
use Rattle.dispatcher.proofs.Lists.{gains_then, gains_as}
use Rattle.dispatcher.proofs.dispatch.shut_all.Goals as goal

pub loop-fired-init : goal.loop-fired-init
loop-fired-init g c = record {
  fits = c.requires.fits;
  stop = refl;
  runs = refl;
  shuts = λ o. (
    [],
    gains_as (g.X.Runner.meaning.shuts c.args.runner.now) (g.X.Runner.meaning.shuts c.args.runner.now) refl,
    refl,
  );
  keeps = g.met.X.Runner.laws.keeps_same c.args.runner.now;
  poller = record { same_polled = refl; same_faults = refl };
}

pub loop-fired-preserved-in-Some-job : goal.loop-fired-preserved-in-Some-job
loop-fired-preserved-in-Some-job g c =
    let i = c.loop-fired.invariant in
    let tag = g.T.Load.tag in
    let fk = fired_key tag in
    let v = mgr_view c.args.passes.now.mgr in
    let rest = c.pop_first.new.self in
    let f = c.in-Some.fired in
    let o = i.fits.0 in
    let here = (subst (λ j. g.X.Runner.meaning.fits c.loop-fired.runner v
    (job_of (o, record { key = f.key; dir = f.dir; marks = f.marks; kind = kind_of_job tag j })
    (kind_of_job tag j) ++ jobs_of (firings o (map fk rest)))) c.in-Some-job.is
    (subst (λ l. g.X.Runner.meaning.fits c.loop-fired.runner v (jobs_of (firings o (map fk l))))
    c.in-Some.ensures i.fits.1)) in
    record {
      fits = (o, c.shut.ensures.fits v (jobs_of (firings o (map fk rest))) o f.dir f.marks here);
      stop = c.shut.ensures.stop ∙ i.stop;
      runs = c.shut.ensures.runs ∙ i.runs;
      shuts = λ o. let s = i.shuts o in
          let keys = ap (λ l. s.0 ++ job_keys_of (firings o (map fk l))) c.in-Some.ensures in
          let key = ap (λ j. s.0 ++ (keys_of
          (job_of (o, record { key = f.key; dir = f.dir; marks = f.marks; kind = kind_of_job tag j })
          (kind_of_job tag j)) ++ job_keys_of (firings o (map fk rest)))) c.in-Some-job.is in (
            s.0 ++ f.key ∷ [],
            gains_then (g.X.Runner.meaning.shuts c.args.runner.now)
                (g.X.Runner.meaning.shuts c.loop-fired.runner) (g.X.Runner.meaning.shuts c.shut.new.self) s.0
                (f.key ∷ []) s.1 c.shut.ensures.shuts,
            append_assoc s.0 (f.key ∷ []) (job_keys_of (firings o (map fk rest)))
                ∙ (sym key ∙ (sym keys ∙ s.2)),
          );
      keeps =
          g.met.X.Runner.laws.keeps_on c.args.runner.now c.loop-fired.runner c.shut.new.self
          i.keeps c.shut.ensures.keeps;
      poller = record {
        same_polled = c.shut.ensures.poller.same_polled ∙ i.poller.same_polled;
        same_faults = c.shut.ensures.poller.same_faults ∙ i.poller.same_faults;
      };
    }

pub loop-fired-preserved : goal.loop-fired-preserved
loop-fired-preserved g c =
    let i = c.loop-fired.invariant in
    let tag = g.T.Load.tag in
    let fk = fired_key tag in
    let v = mgr_view c.args.passes.now.mgr in
    let rest = c.pop_first.new.self in
    let f = c.in-Some.fired in
    let o = i.fits.0 in
    let fits = subst (λ l. g.X.Runner.meaning.fits c.loop-fired.runner v (jobs_of (firings o (map fk l))))
    c.in-Some.ensures i.fits.1 in
    record {
      fits = (
        o,
        subst (λ j. g.X.Runner.meaning.fits c.loop-fired.runner v
            (job_of (o, record { key = f.key; dir = f.dir; marks = f.marks; kind = kind_of_job tag j })
            (kind_of_job tag j) ++ jobs_of (firings o (map fk rest))))
            c.in_default-job.is fits,
      );
      stop = i.stop;
      runs = i.runs;
      shuts = λ o. let s = i.shuts o in
          let keys = ap (λ l. s.0 ++ job_keys_of (firings o (map fk l))) c.in-Some.ensures in
          let key = ap (λ j. s.0 ++ (keys_of
          (job_of (o, record { key = f.key; dir = f.dir; marks = f.marks; kind = kind_of_job tag j })
          (kind_of_job tag j)) ++ job_keys_of (firings o (map fk rest)))) c.in_default-job.is in
          (s.0, s.1, sym key ∙ (sym keys ∙ s.2));
      keeps = i.keeps;
      poller = i.poller;
    }

pub returns-clause-shuts : goal.returns-clause-shuts
returns-clause-shuts g c o =
    let s = c.loop-fired.invariant.shuts o in
    let fk = fired_key g.T.Load.tag in
    let none = ap (λ l. s.0 ++ job_keys_of (firings o (map fk l))) c.in_default.ensures.0 in
    subst (λ (l : List Key).
    Gains (g.X.Runner.meaning.shuts c.args.runner.now) (g.X.Runner.meaning.shuts c.loop-fired.runner) l)
    (sym (append-nil s.0) ∙ (sym none ∙ s.2)) s.1

pub shut-requires : goal.shut-requires
shut-requires g c =
    let i = c.loop-fired.invariant in
    let tag = g.T.Load.tag in
    let fk = fired_key tag in
    let v = mgr_view c.args.passes.now.mgr in
    let rest = c.pop_first.new.self in
    let f = c.in-Some.fired in
    let o = i.fits.0 in
    record {
      fits = (
        v,
        jobs_of (firings o (map fk rest)),
        o,
        f.dir,
        f.marks,
        (subst (λ j. g.X.Runner.meaning.fits c.loop-fired.runner v
            (job_of (o, record { key = f.key; dir = f.dir; marks = f.marks; kind = kind_of_job tag j })
            (kind_of_job tag j) ++ jobs_of (firings o (map fk rest)))) c.in-Some-job.is
            (subst (λ l. g.X.Runner.meaning.fits c.loop-fired.runner v (jobs_of (firings o (map fk l))))
            c.in-Some.ensures i.fits.1)),
      );
    }
