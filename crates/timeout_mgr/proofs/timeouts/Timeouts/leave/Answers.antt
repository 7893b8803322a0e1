use Rattle.std.proofs.Common.{◌+◌, ◌*◌, ap, ◌∙◌, inl, inr, ⊎_elim, sym, arith, Some}
use Rattle.timeout_mgr.specs.declared.view.Holding.TheVariants.{Idle, Holds}
use Rattle.timeout_mgr.specs.declared.view.TimeView.{TimeView}
use Rattle.timeout_mgr.proofs.Steps.{cancel_tries, frees}
use Rattle.timeout_mgr.proofs.Told.{left_hit, left_gone, front, decided, freed_decides}
use Rattle.timeout_mgr.proofs.timeouts.Timeouts.leave.Goals as goal

pub compare_exchange-found-requires : goal.compare_exchange-found-requires
compare_exchange-found-requires g c = let sized = c.args.self.now.sized in
    let inside = c.args.watch.now.inside in
    let n = sym c.requires.number in (
      c.requires.own,
      omega arith,
      cancel_tries _ _ _ _ (omega arith) _ _ _
          (⊎_elim (λ e. inl (e ∙ ap (λ u. 8 * u + 2) n))
          (λ e. inr (e ∙ ap (λ u. 8 * u + 3) n)) c.requires.lives)
          (c.word-leaving.ensures ∙ ap (λ u. 8 * u + 4) n),
    )

pub exchange-opening-requires : goal.exchange-opening-requires
exchange-opening-requires g c = let t =
    left_hit _ _ _ _ _ _ _ _ c.requires.number c.compare_exchange-found.ensures.2 c.if-found-named.true
    c.requires.lives in
    (c.compare_exchange-found.ensures.0 ∙ c.requires.own, (Some t.0, front _ _ _ t.1.1))

pub store-requires : goal.store-requires
store-requires g c =
    let sized = c.args.self.now.sized in
    let inside = c.args.watch.now.inside in
    let t =
    left_hit _ _ _ _ _ _ _ _ c.requires.number c.compare_exchange-found.ensures.2 c.if-found-named.true
    c.requires.lives in
    let x = c.exchange-opening.ensures in (
      x.0 ∙ (c.compare_exchange-found.ensures.0 ∙ c.requires.own),
      omega arith,
      frees _ _ _ _ (omega arith) c.args.watch.now.number _ (ap (λ m. m.0.hand) x.3
          ∙ (t.1.0.holds ∙ ap (Holds c.args.watch.now.slot) c.word-leaving.ensures))
          (front _ _ _ (ap (λ m. m.1) x.3))
          (let e = c.word-next.ensures in omega (arith, e)),
    )

pub returns-then-found-named-clause-leaves : goal.returns-then-found-named-clause-leaves
returns-then-found-named-clause-leaves g c = let t =
    left_hit _ _ _ _ _ _ _ _ c.requires.number c.compare_exchange-found.ensures.2 c.if-found-named.true
    c.requires.lives in
    let x = c.exchange-opening.ensures in
    freed_decides _ _ c.compare_exchange-found.new.seat.me.0 _ (decided _ _ _ _ t.1.0) (c.store.ensures.2.0
    ∙ ap (λ (v : TimeView). record v { hand = Idle }) (ap (λ m. m.0) x.3))

pub returns-clause-leaves : goal.returns-clause-leaves
returns-clause-leaves g c =
    left_gone _ _ _ _ _ _ _ _ c.requires.number c.compare_exchange-found.ensures.2 c.if-found-named.false
    (λ e. c.if-found-active.false (e ∙ sym c.word-active.ensures))
    (λ e. c.if-found-inactive.false (e ∙ sym c.word-inactive.ensures))
