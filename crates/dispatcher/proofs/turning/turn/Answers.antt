use Rattle.std.specs.Option.{option_map}
use Rattle.std.specs.Prelude.{◌==◌, ◌&&◌}
use Rattle.std.proofs.Common.{◌≡◌, ◌+◌, ◌++◌, [], length, refl, sym, ap, ◌∙◌, subst, arith}
use Rattle.outside.specs.Counts.{Rises}
use Rattle.ready_queue.specs.Calls.{capacity_of}
use Rattle.event_mgr.specs.Manager.{mgr_view}
use Rattle.poller.specs.declared.poller.PollOut.TheVariants.{Polled, Failed}
use Rattle.dispatcher.specs.declared.outcome.Turned.{Turned}
use Rattle.dispatcher.specs.Turns.{book_of, work_with, is_idle, HasTurned}
use Rattle.dispatcher.specs.Books.{taken}
use Rattle.dispatcher.proofs.Lists.{gains_as}
use Rattle.dispatcher.proofs.Accounts.{accounted_same, accounted_then}
use Rattle.dispatcher.proofs.Works.{run_then}
use Rattle.dispatcher.proofs.WorkSteps.{poll_step}
use Rattle.dispatcher.proofs.Ends.{halted_then}
use Rattle.dispatcher.proofs.Parts.{gains_piece, taken_around, idle_is, turned_halted, turned_left, done_work}
use Rattle.dispatcher.proofs.Parts.{emptied_on}
use Rattle.dispatcher.proofs.Polled.{polled_once}
use Rattle.dispatcher.proofs.turning.turn.Goals as goal

pub returns-in-Err-clause-turned : goal.returns-in-Err-clause-turned
returns-in-Err-clause-turned g c =
    let p = c.args.passes.now in
    let x = c.args.runner.now in
    let q = c.empty_hand.new.passes in
    let y = c.empty_hand.new.runner in
    let cap = capacity_of c.args.queue.now in
    subst (λ (t : Turned).
    HasTurned g.X.Runner.meaning g.X.Poller.Poller.meaning cap c.args.max p x t c.args.reports.now q y)
    (sym c.turned.ensures)
    (turned_halted g.X.Runner.meaning g.X.Poller.Poller.meaning cap
    c.args.max p x c.in-Err.halt c.args.reports.now q y c.requires.empty
    (gains_as (g.X.Poller.Poller.meaning.polled (g.X.Runner.meaning.poller_of x))
    (g.X.Poller.Poller.meaning.polled (g.X.Runner.meaning.poller_of y))
    c.empty_hand.ensures.leaves.poller.same_polled) c.in-Err.ensures.halted)

pub returns-in-Err-take_events-clause-turned : goal.returns-in-Err-take_events-clause-turned
returns-in-Err-take_events-clause-turned g c =
    let p = c.args.passes.now in
    let x = c.args.runner.now in
    let q1 = c.empty_hand.new.passes in
    let y1 = c.empty_hand.new.runner in
    let q = c.take_events.new.passes in
    let y = c.take_events.new.runner in
    let cap = capacity_of c.args.queue.now in
    let same =
    c.take_events.ensures.leaves.poller.same_polled ∙ c.empty_hand.ensures.leaves.poller.same_polled in
    subst (λ (t : Turned).
    HasTurned g.X.Runner.meaning g.X.Poller.Poller.meaning cap c.args.max p x t c.args.reports.now q y)
    (sym c.turned-in-Err-take_events.ensures)
    (turned_halted g.X.Runner.meaning g.X.Poller.Poller.meaning cap c.args.max
    p x c.in-Err-take_events.halt c.args.reports.now q y c.requires.empty
    (gains_as (g.X.Poller.Poller.meaning.polled (g.X.Runner.meaning.poller_of x))
    (g.X.Poller.Poller.meaning.polled (g.X.Runner.meaning.poller_of y)) same)
    (halted_then g.X.Runner.meaning g.met.X.Runner.laws.keeps_on cap c.in-Ok.ran
    [] [] [] [] p x q1 y1 c.in-Err-take_events.halt q y c.in-Ok.ensures.went.events
    c.in-Ok.ensures.went.ran c.in-Err-take_events.ensures.halted))

pub returns-in-Failed-clause-stop : goal.returns-in-Failed-clause-stop
returns-in-Failed-clause-stop g c =
    let y = c.take_events.new.runner in
    let k = polled_once g.T.Load.tag g.X.Poller.Poller.meaning g.X.Runner.meaning g.met.X.Runner.laws
    c.may_wait-idle.result y Failed c.poll_once.new.reports c.poll_once.new.runner c.in-Failed.ensures in
    k.same_stop ∙ c.in-Ok-take_events.ensures.leaves.stop

pub returns-in-Failed-clause-fits : goal.returns-in-Failed-clause-fits
returns-in-Failed-clause-fits g c =
    let y = c.take_events.new.runner in
    let k = polled_once g.T.Load.tag g.X.Poller.Poller.meaning g.X.Runner.meaning g.met.X.Runner.laws
    c.may_wait-idle.result y Failed c.poll_once.new.reports c.poll_once.new.runner c.in-Failed.ensures in
    k.fits (mgr_view c.take_events.new.passes.mgr) [] c.in-Ok-take_events.ensures.leaves.fits

pub report_all-requires : goal.report_all-requires
report_all-requires g c =
    let y = c.take_events.new.runner in
    let e2 = c.in-Ok-take_events.ensures in
    let k = polled_once g.T.Load.tag g.X.Poller.Poller.meaning g.X.Runner.meaning g.met.X.Runner.laws
    c.may_wait-idle.result y Polled c.poll_once.new.reports c.poll_once.new.runner c.in-Polled.ensures in
    record {
      ready = record {
        own = e2.leaves.own;
        stop = k.same_stop ∙ e2.leaves.stop;
        fits = k.fits (mgr_view c.take_events.new.passes.mgr) [] e2.leaves.fits;
      };
    }

pub returns-in-Failed-clause-turned : goal.returns-in-Failed-clause-turned
returns-in-Failed-clause-turned g c =
    let p = c.args.passes.now in
    let x = c.args.runner.now in
    let q1 = c.empty_hand.new.passes in
    let y1 = c.empty_hand.new.runner in
    let q = c.take_events.new.passes in
    let y = c.take_events.new.runner in
    let z = c.poll_once.new.runner in
    let cap = capacity_of c.args.queue.now in
    let e1 = c.in-Ok.ensures in
    let e2 = c.in-Ok-take_events.ensures in
    let k = polled_once g.T.Load.tag g.X.Poller.Poller.meaning g.X.Runner.meaning g.met.X.Runner.laws
    c.may_wait-idle.result y Failed c.poll_once.new.reports z c.in-Failed.ensures in
    let meaning = g.X.Runner.meaning in
    let told = g.X.Poller.Poller.meaning in
    let on = g.met.X.Runner.laws.keeps_on in
    let t1 = e1.takes in
    let t2 = e2.counted in
    let idle : c.may_wait-idle.result ≡ is_idle (book_of p) (book_of q) = c.may_wait-idle.ensures
    ∙ ap (λ b. b && (length q.hand == 0)) (idle_is (taken (λ _. 1) (book_of q))
    (taken (λ _. 1) (book_of p)) c.in-Ok-take_events.count.handled (omega arith)) in
    let before = e2.leaves.poller.same_faults ∙ e1.leaves.poller.same_faults in
    let until = accounted_then cap (book_of p) (book_of q1) (book_of q) e1.went.events e2.went.events in
    let poll = subst (λ b.
    told.polls (meaning.poller_of y) b Failed c.poll_once.new.reports (meaning.poller_of z)) idle k.poll in
    let ran = run_then meaning on c.in-Ok.ran c.in-Ok-take_events.count.ran (work_with [] [] p) x
    (work_with [] [] q1) y1 (work_with [] [] q) y e1.went.ran e2.went.ran in
    let polled = poll_step meaning (mgr_view q.mgr) y z [] k.same_runs k.same_shuts k.kept in record {
      events = until;
      takes =
          taken_around cap c.args.max p q1 q q e1.takes e2.takes refl e1.went.events
          (accounted_same cap (book_of q));
      polled = record {
        at = book_of q;
        until = until;
        runner = y;
        after = meaning.poller_of z;
        poll =
            subst (λ l.
            told.polls (meaning.poller_of y) (is_idle (book_of p) (book_of q)) Failed l (meaning.poller_of z))
            (k.none refl) poll;
      };
      since = accounted_same cap (book_of q);
      gave = k.gave ∙ (e2.leaves.poller.same_polled ∙ e1.leaves.poller.same_polled);
      work =
          (run_then meaning on (c.in-Ok.ran + c.in-Ok-take_events.count.ran) 0 (work_with [] [] p) x
          (work_with [] [] q) y (work_with [] [] q) z ran polled).0;
      rose = subst (λ n. Rises n (told.faults (meaning.poller_of z)).polls) before (k.faulted.failed refl);
      none_left = k.none refl;
    }

pub returns-in-Ok-report_all-clause-turned : goal.returns-in-Ok-report_all-clause-turned
returns-in-Ok-report_all-clause-turned g c =
    let p = c.args.passes.now in
    let x = c.args.runner.now in
    let q1 = c.empty_hand.new.passes in
    let y1 = c.empty_hand.new.runner in
    let q = c.take_events.new.passes in
    let y = c.take_events.new.runner in
    let z = c.poll_once.new.runner in
    let r = c.report_all.new.passes in
    let w = c.report_all.new.runner in
    let pairs = c.poll_once.new.reports in
    let cap = capacity_of c.args.queue.now in
    let e1 = c.in-Ok.ensures in
    let e2 = c.in-Ok-take_events.ensures in
    let e3 = c.in-Ok-report_all.ensures in
    let k = polled_once g.T.Load.tag g.X.Poller.Poller.meaning g.X.Runner.meaning g.met.X.Runner.laws
    c.may_wait-idle.result y Polled c.poll_once.new.reports z c.in-Polled.ensures in
    let meaning = g.X.Runner.meaning in
    let told = g.X.Poller.Poller.meaning in
    let on = g.met.X.Runner.laws.keeps_on in
    let of = meaning.poller_of in
    let t1 = e1.takes in
    let t2 = e2.counted in
    let idle : c.may_wait-idle.result ≡ is_idle (book_of p) (book_of q) = c.may_wait-idle.ensures
    ∙ ap (λ b. b && (length q.hand == 0)) (idle_is (taken (λ _. 1) (book_of q))
    (taken (λ _. 1) (book_of p)) c.in-Ok-take_events.count.handled (omega arith)) in
    let before = e2.leaves.poller.same_polled ∙ e1.leaves.poller.same_polled in
    let gave = subst (λ o. told.polled (of w) ≡ option_map (λ l. l ++ pairs) o) before
    (e3.leaves.poller.same_polled ∙ k.gave) in
    let ran = run_then meaning on (c.in-Ok.ran + c.in-Ok-take_events.count.ran) 0 (work_with [] [] p) x
    (work_with [] [] q) y (work_with [] [] q) z
    (run_then meaning on c.in-Ok.ran c.in-Ok-take_events.count.ran (work_with [] [] p) x
    (work_with [] [] q1) y1 (work_with [] [] q) y e1.went.ran e2.went.ran)
    (poll_step meaning (mgr_view q.mgr) y z [] k.same_runs k.same_shuts k.kept) in
    let whole = done_work meaning told on ((c.in-Ok.ran + c.in-Ok-take_events.count.ran) + 0) p x pairs
    q z c.in-Ok-report_all.told r w c.report_all.new.reports ran e3.ran in
    let sum = whole.1 in
    let later = accounted_then cap (book_of q1) (book_of q) (book_of r) e2.went.events e3.events in record {
      events = accounted_then cap (book_of p) (book_of q1) (book_of r) e1.went.events later;
      emptied = emptied_on cap p q1 r e1.went.events e1.emptied later;
      takes = taken_around cap c.args.max p q1 q r e1.takes e2.takes e3.takes e1.went.events e3.events;
      pairs = pairs;
      polled = record {
        at = book_of q;
        until = accounted_then cap (book_of p) (book_of q1) (book_of q) e1.went.events e2.went.events;
        runner = y;
        after = of z;
        poll = subst (λ b. told.polls (of y) b Polled pairs (of z)) idle k.poll;
      };
      since = e3.events;
      gave = gains_piece (told.polled (of x)) (told.polled (of w)) pairs gave;
      work = whole.0;
      count = omega arith;
      reported = e3.ran.handled;
      none_left = e3.ran.none_left;
    }

pub returns-in-Err-report_all-clause-turned : goal.returns-in-Err-report_all-clause-turned
returns-in-Err-report_all-clause-turned g c =
    let p = c.args.passes.now in
    let x = c.args.runner.now in
    let q1 = c.empty_hand.new.passes in
    let y1 = c.empty_hand.new.runner in
    let q = c.take_events.new.passes in
    let y = c.take_events.new.runner in
    let z = c.poll_once.new.runner in
    let r = c.report_all.new.passes in
    let w = c.report_all.new.runner in
    let pairs = c.poll_once.new.reports in
    let cap = capacity_of c.args.queue.now in
    let e1 = c.in-Ok.ensures in
    let e2 = c.in-Ok-take_events.ensures in
    let e3 = c.in-Err-report_all.ensures in
    let k = polled_once g.T.Load.tag g.X.Poller.Poller.meaning g.X.Runner.meaning g.met.X.Runner.laws
    c.may_wait-idle.result y Polled c.poll_once.new.reports z c.in-Polled.ensures in
    let meaning = g.X.Runner.meaning in
    let told = g.X.Poller.Poller.meaning in
    let on = g.met.X.Runner.laws.keeps_on in
    let of = meaning.poller_of in
    let t1 = e1.takes in
    let t2 = e2.counted in
    let idle : c.may_wait-idle.result ≡ is_idle (book_of p) (book_of q) = c.may_wait-idle.ensures
    ∙ ap (λ b. b && (length q.hand == 0)) (idle_is (taken (λ _. 1) (book_of q))
    (taken (λ _. 1) (book_of p)) c.in-Ok-take_events.count.handled (omega arith)) in
    let before = e2.leaves.poller.same_polled ∙ e1.leaves.poller.same_polled in
    let gave = subst (λ o. told.polled (of w) ≡ option_map (λ l. l ++ pairs) o) before
    (e3.leaves.poller.same_polled ∙ k.gave) in
    let ran = run_then meaning on (c.in-Ok.ran + c.in-Ok-take_events.count.ran) 0 (work_with [] [] p) x
    (work_with [] [] q) y (work_with [] [] q) z
    (run_then meaning on c.in-Ok.ran c.in-Ok-take_events.count.ran (work_with [] [] p) x
    (work_with [] [] q1) y1 (work_with [] [] q) y e1.went.ran e2.went.ran)
    (poll_step meaning (mgr_view q.mgr) y z [] k.same_runs k.same_shuts k.kept) in
    let until = accounted_then cap (book_of p) (book_of q1) (book_of q) e1.went.events e2.went.events in
    subst (λ (t : Turned). HasTurned meaning told cap c.args.max p x t c.report_all.new.reports r w)
    (sym c.turned-in-Err-report_all.ensures)
    (turned_left meaning told on cap c.args.max ((c.in-Ok.ran + c.in-Ok-take_events.count.ran) + 0) p
    x pairs q z c.in-Err-report_all.halt c.report_all.new.reports r w until ran
    (gains_piece (told.polled (of x)) (told.polled (of w)) pairs gave)
    (record {
      at = book_of q;
      until = until;
      runner = y;
      after = of z;
      poll = subst (λ b. told.polls (of y) b Polled pairs (of z)) idle k.poll;
    })
    e3.halted)
