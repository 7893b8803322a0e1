use Rattle.std.proofs.Common.{◌+◌, ◌*◌, ap, ◌∙◌, inl, inr, ⊎_elim, [], sym, arith}
use Rattle.timeout_mgr.proofs.Steps.{tickle_looks, tickle_tries}
use Rattle.timeout_mgr.proofs.Told.{look_active, look_gone, look_inactive, try_alive, try_gone, then_decides}
use Rattle.timeout_mgr.proofs.timeouts.Timeouts.tickle_as.Goals as goal

pub load-found-requires : goal.load-found-requires
load-found-requires g c = let sized = c.args.self.now.sized in
    let inside = c.args.watch.now.inside in
    (c.requires.own, omega arith, tickle_looks _ _ _ _ (omega arith) _)

pub returns-then-found-active-clause-tickles : goal.returns-then-found-active-clause-tickles
returns-then-found-active-clause-tickles g c =
    look_active _ _ _ _ _ _ c.requires.number c.load-found.ensures.2
    (c.if-found-active.true ∙ c.word-active.ensures)

pub returns-then-found-inactive-clause-tickles : goal.returns-then-found-inactive-clause-tickles
returns-then-found-inactive-clause-tickles g c =
    look_gone _ _ _ _ _ _ c.requires.number c.load-found.ensures.2
    (λ e. c.if-found-active.false (e ∙ sym c.word-active.ensures))
    (λ e. c.if-found-inactive.true (e ∙ sym c.word-inactive.ensures))

pub compare_exchange-found-requires : goal.compare_exchange-found-requires
compare_exchange-found-requires g c = let sized = c.args.self.now.sized in
    let inside = c.args.watch.now.inside in
    let n = sym c.requires.number in (
      c.load-found.ensures.0 ∙ c.requires.own,
      omega arith,
      tickle_tries _ _ _ _ (omega arith) _ _ _ (c.word-inactive.ensures
          ∙ ap (λ u. 8 * u + 3) n) (c.word-active.ensures ∙ ap (λ u. 8 * u + 2) n),
    )

pub returns-then-found-inactive-2-clause-tickles : goal.returns-then-found-inactive-2-clause-tickles
returns-then-found-inactive-2-clause-tickles g c = let n = c.requires.number in
    then_decides [] _ _ c.load-found.new.seat.me.0 _
    (look_inactive _ _ _ _ _ _ n c.load-found.ensures.2 (c.if-found-inactive.false ∙ c.word-inactive.ensures))
    (try_alive _ _ _ _ _ _ n c.compare_exchange-found.ensures.2
    (⊎_elim (λ e. inl (e ∙ c.word-inactive.ensures))
    (λ x. inr (x.1 ∙ c.word-active.ensures)) c.then-found-inactive-2.either))

pub returns-clause-tickles : goal.returns-clause-tickles
returns-clause-tickles g c = let n = c.requires.number in
    then_decides [] _ _ c.load-found.new.seat.me.0 _
    (look_inactive _ _ _ _ _ _ n c.load-found.ensures.2 (c.if-found-inactive.false ∙ c.word-inactive.ensures))
    (try_gone _ _ _ _ _ _ n c.compare_exchange-found.ensures.2
    (λ e. c.if-found-inactive-2.false (e ∙ sym c.word-inactive.ensures))
    (λ e. c.if-found-active-2.false (e ∙ sym c.word-active.ensures)))
