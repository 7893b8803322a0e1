use Rattle.std.proofs.Common.{◌∙◌, inl, inr, ⊎_elim, sym, refl, arith}
use Rattle.timeout_mgr.proofs.Steps.{cancel_looks}
use Rattle.timeout_mgr.proofs.Told.{ask_gone, ask_lives, stays_on, then_decides, then_answers}
use Rattle.timeout_mgr.proofs.timeouts.Timeouts.cancel_as.Goals as goal

pub load-first-requires : goal.load-first-requires
load-first-requires g c = let sized = c.args.self.now.sized in
    let inside = c.args.watch.inside in
    (c.requires.own, omega arith, cancel_looks _ _ _ _ (omega arith) _)

pub returns-then-first-inactive-clause-cancels : goal.returns-then-first-inactive-clause-cancels
returns-then-first-inactive-clause-cancels g c = ask_gone _ _ _ _ _ _ c.requires.number c.load-first.ensures.2
    (λ e. c.if-first-active.true (e ∙ sym c.word-active.ensures))
    (λ e. c.if-first-inactive.true (e ∙ sym c.word-inactive.ensures))

pub leave-requires-clause-lives : goal.leave-requires-clause-lives
leave-requires-clause-lives g c =
    ⊎_elim (λ x. inr (x.1 ∙ c.word-inactive.ensures))
    (λ e. inl (e ∙ c.word-active.ensures)) c.else-first-active.either

pub returns-in-Cancelled-clause-cancels : goal.returns-in-Cancelled-clause-cancels
returns-in-Cancelled-clause-cancels g c = let a =
    ask_lives _ _ _ _ _ _ c.requires.number c.load-first.ensures.2
    (⊎_elim (λ x. inr (x.1 ∙ c.word-inactive.ensures))
    (λ e. inl (e ∙ c.word-active.ensures)) c.else-first-active.either) in
    then_decides _ _ _ c.load-first.new.seat.me.0 _ a c.in-Cancelled.ensures.leaves

pub returns-in-Gone-clause-cancels : goal.returns-in-Gone-clause-cancels
returns-in-Gone-clause-cancels g c = let a =
    ask_lives _ _ _ _ _ _ c.requires.number c.load-first.ensures.2
    (⊎_elim (λ x. inr (x.1 ∙ c.word-inactive.ensures))
    (λ e. inl (e ∙ c.word-active.ensures)) c.else-first-active.either) in
    then_decides _ _ _ c.load-first.new.seat.me.0 _ a c.in-Gone.ensures.leaves

pub returns-in-Cancelled-leave-clause-cancels : goal.returns-in-Cancelled-leave-clause-cancels
returns-in-Cancelled-leave-clause-cancels g c = let a =
    ask_lives _ _ _ _ _ _ c.requires.number c.load-first.ensures.2
    (⊎_elim (λ x. inr (x.1 ∙ c.word-inactive.ensures))
    (λ e. inl (e ∙ c.word-active.ensures)) c.else-first-active.either) in
    then_decides _ _ _ c.load-first.new.seat.me.0 _ a
    (then_decides _ _ _ c.leave.new.pass.seat.me.0 _ c.in-Lives.ensures.leaves.0
    c.in-Cancelled-leave.ensures.leaves)

pub returns-in-Gone-leave-clause-cancels : goal.returns-in-Gone-leave-clause-cancels
returns-in-Gone-leave-clause-cancels g c = let a =
    ask_lives _ _ _ _ _ _ c.requires.number c.load-first.ensures.2
    (⊎_elim (λ x. inr (x.1 ∙ c.word-inactive.ensures))
    (λ e. inl (e ∙ c.word-active.ensures)) c.else-first-active.either) in
    then_decides _ _ _ c.load-first.new.seat.me.0 _ a
    (then_decides _ _ _ c.leave.new.pass.seat.me.0 _ c.in-Lives.ensures.leaves.0
    c.in-Gone-leave.ensures.leaves)

pub returns-in-Cancelled-leave-2-clause-cancels : goal.returns-in-Cancelled-leave-2-clause-cancels
returns-in-Cancelled-leave-2-clause-cancels g c = let a =
    ask_lives _ _ _ _ _ _ c.requires.number c.load-first.ensures.2
    (⊎_elim (λ x. inr (x.1 ∙ c.word-inactive.ensures))
    (λ e. inl (e ∙ c.word-active.ensures)) c.else-first-active.either) in
    then_decides _ _ _ c.load-first.new.seat.me.0 _ a
    (then_decides _ _ _ c.leave.new.pass.seat.me.0 _ c.in-Lives.ensures.leaves.0
    (then_decides _ _ _ c.leave-2.new.pass.seat.me.0 _ c.in-Lives-leave.ensures.leaves.0
    c.in-Cancelled-leave-2.ensures.leaves))

pub returns-in-Gone-leave-2-clause-cancels : goal.returns-in-Gone-leave-2-clause-cancels
returns-in-Gone-leave-2-clause-cancels g c = let a =
    ask_lives _ _ _ _ _ _ c.requires.number c.load-first.ensures.2
    (⊎_elim (λ x. inr (x.1 ∙ c.word-inactive.ensures))
    (λ e. inl (e ∙ c.word-active.ensures)) c.else-first-active.either) in
    then_decides _ _ _ c.load-first.new.seat.me.0 _ a
    (then_decides _ _ _ c.leave.new.pass.seat.me.0 _ c.in-Lives.ensures.leaves.0
    (then_decides _ _ _ c.leave-2.new.pass.seat.me.0 _ c.in-Lives-leave.ensures.leaves.0
    c.in-Gone-leave-2.ensures.leaves))

pub returns-in-Lives-leave-2-clause-cancels : goal.returns-in-Lives-leave-2-clause-cancels
returns-in-Lives-leave-2-clause-cancels g c = let alive =
    ⊎_elim (λ x. inr (x.1 ∙ c.word-inactive.ensures))
    (λ e. inl (e ∙ c.word-active.ensures)) c.else-first-active.either in
    let a = ask_lives _ _ _ _ _ _ c.requires.number c.load-first.ensures.2 alive in
    let x = c.in-Lives.ensures.leaves in
    let y = c.in-Lives-leave.ensures.leaves in
    let z = c.in-Lives-leave-2.ensures.leaves in (
      refl,
      (
        _,
        record {
          first = _;
          second = _;
          third = _;
          fourth = _;
          items_are =
              refl;
          others = ((λ e. x.1 (sym e)), (λ e. y.1 (sym e)), (λ e. z.1 (sym e)));
          alive = (
            alive,
            x.2,
            y.2,
            z.2,
          );
        },
        then_answers _ _ _ c.leave-3.new.pass.seat.me.0 _
            (stays_on _ _ _ c.leave-2.new.pass.seat.me.0 _
            (stays_on _ _ _ c.leave.new.pass.seat.me.0 _
            (stays_on _ _ _ c.load-first.new.seat.me.0 _ a x.0) y.0) z.0)
            c.answer.ensures.answers,
      ),
    )
