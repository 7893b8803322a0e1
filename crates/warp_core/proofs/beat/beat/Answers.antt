use Rattle.std.proofs.Common.{[], ◌∷◌, true, false, refl, sym, ◌∙◌, subst, arith}
use Rattle.std.specs.Prelude.{Some}
use Rattle.outside.specs.Moments.{Gives}
use Rattle.warp_core.specs.Rows.{known_by}
use Rattle.warp_core.specs.SweepTimes.{IsDueAt}
use Rattle.warp_core.proofs.KeepingBeats.{on_beat, swept_more}
use Rattle.warp_core.proofs.Serving.{pass_same}
use Rattle.warp_core.proofs.beat.beat.Goals as goal

pub returns-in_default-clause-serves : goal.returns-in_default-clause-serves
returns-in_default-clause-serves g c =
    let own = c.requires.own in
    record {
      own = record { passes = own.passes; shared = own.shared };
      fits = c.requires.fits;
      halts = c.requires.halts;
      events = c.requires.events;
    }

pub returns-in_default-clause-goes_on : goal.returns-in_default-clause-goes_on
returns-in_default-clause-goes_on g c = record { passes = pass_same (known_by c.args.row.now); limit = refl }

pub returns-then-not-is_due-clause-serves : goal.returns-then-not-is_due-clause-serves
returns-then-not-is_due-clause-serves g c =
    let own = c.requires.own in
    record {
      own = record { passes = own.passes; shared = own.shared };
      fits = c.requires.fits;
      halts = c.requires.halts;
      events = c.requires.events;
    }

pub returns-then-not-is_due-clause-goes_on : goal.returns-then-not-is_due-clause-goes_on
returns-then-not-is_due-clause-goes_on g c =
    record { passes = pass_same (known_by c.args.row.now); limit = refl }

pub clean-halted-requires : goal.clean-halted-requires
clean-halted-requires g c =
    let own = c.requires.own in
    record {
      own = record { passes = own.passes; shared = own.shared };
      fits = c.requires.fits;
      halts = c.requires.halts;
      events = c.requires.events;
    }

pub returns-clause-serves : goal.returns-clause-serves
returns-clause-serves g c =
    let s = c.clean-halted.ensures.serves in
    record {
      own = record { passes = s.own.passes; shared = s.own.shared };
      fits = s.fits;
      halts = s.halts;
      events = s.events;
    }

pub returns-clause-goes_on : goal.returns-clause-goes_on
returns-clause-goes_on g c =
    let goes = c.clean-halted.ensures.goes_on in
    record { passes = goes.passes; limit = goes.limit }

pub returns-then-not-is_due-clause-on : goal.returns-then-not-is_due-clause-on
returns-then-not-is_due-clause-on g c =
    on_beat g.C.Clock.told c.args.row.now
    (record c.args.row.now {
      runner = record c.args.row.now.runner { clock = c.now-now.new.self };
      beats = Some c.is_due.new.self;
    })
    c.in-Some.beats c.is_due.new.self (sym c.in-Some.ensures.value) refl c.is_due.ensures.seconds c.now-now.result
    false c.now-now.ensures.gives c.if-not-is_due.ensures.due (omega arith)

pub returns-clause-on : goal.returns-clause-on
returns-clause-on g c =
    let y = c.clean-halted.new.row in
    on_beat g.C.Clock.told c.args.row.now (record y { beats = Some c.clean-halted.result.1 }) c.in-Some.beats
    c.clean-halted.result.1 (sym c.in-Some.ensures.value) refl
    (c.clean-halted.ensures.keeps.0 ∙ c.is_due.ensures.seconds) c.now-now.result true
    (subst (λ clock. Gives (c.now-now.result ∷ []) (g.C.Clock.told c.args.row.now.runner.clock)
    (g.C.Clock.told clock)) (sym c.clean-halted.ensures.clock) c.now-now.ensures.gives)
    (subst (λ last. IsDueAt c.in-Some.beats.seconds c.in-Some.beats.last c.now-now.result true last)
    (sym c.clean-halted.ensures.keeps.1) c.if-not-is_due.ensures.due)
    (swept_more _ _ c.clean-halted.ensures.cleaned.swept)
