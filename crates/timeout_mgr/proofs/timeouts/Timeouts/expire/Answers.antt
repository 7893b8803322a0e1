use Rattle.std.proofs.Common.{◌+◌, ◌*◌, ap, ◌∙◌, sym, arith, Some}
use Rattle.timeout_mgr.specs.declared.view.TimeView.{TimeView}
use Rattle.timeout_mgr.specs.declared.view.Holding.TheVariants.{Idle, Holds}
use Rattle.timeout_mgr.proofs.Steps.{expires, frees}
use Rattle.timeout_mgr.proofs.Told.{exp_hit, exp_miss, front, all_told, gave, same_value}
use Rattle.timeout_mgr.proofs.timeouts.Timeouts.expire.Goals as goal

pub compare_exchange-found-requires : goal.compare_exchange-found-requires
compare_exchange-found-requires g c = let sized = c.args.self.now.sized in
    let inside = c.requires.inside in
    let n = sym c.requires.number.0 in (
      c.requires.own,
      omega arith,
      expires _ _ _ _ (omega arith) _ _ _ _ (c.word-inactive.ensures ∙ ap (λ u. 8 * u + 3) n)
          (c.word-leaving.ensures
          ∙ ap (λ u. 8 * u + 4) n),
    )

pub returns-then-found-inactive-clause-sweeps : goal.returns-then-found-inactive-clause-sweeps
returns-then-found-inactive-clause-sweeps g c =
    exp_miss _ _ _ _ _ _ _ _ c.compare_exchange-found.ensures.2 c.if-found-inactive.true

pub exchange-given-requires : goal.exchange-given-requires
exchange-given-requires g c = let t =
    exp_hit _ _ _ _ _ _ _ _ c.compare_exchange-found.ensures.2 c.if-found-inactive.false in
    (c.compare_exchange-found.ensures.0 ∙ c.requires.own, (Some t.0, front _ _ _ t.1.1))

pub store-requires : goal.store-requires
store-requires g c = let sized = c.args.self.now.sized in
    let inside = c.requires.inside in
    let n = sym c.requires.number.0 in
    let t = exp_hit _ _ _ _ _ _ _ _ c.compare_exchange-found.ensures.2 c.if-found-inactive.false in
    let x = c.exchange-given.ensures in (
      x.0 ∙ (c.compare_exchange-found.ensures.0 ∙ c.requires.own),
      omega arith,
      frees _ _ _ _ (omega arith) g.N.Numbered.number _
          (ap (λ m. m.0.hand) x.3
          ∙ (t.1.0.holds ∙ ap (Holds c.args.slot) (c.word-leaving.ensures ∙ ap (λ u. 8 * u + 4) n)))
          (front _ _ _ (ap (λ m. m.1) x.3)) (let e = c.word-next.ensures in omega (arith, e, n)),
    )

pub returns-clause-sweeps : goal.returns-clause-sweeps
returns-clause-sweeps g c = let t =
    exp_hit _ _ _ _ _ _ _ _ c.compare_exchange-found.ensures.2 c.if-found-inactive.false in
    let x = c.exchange-given.ensures in
    gave _ _ _ t.0 _ _ c.compare_exchange-found.new.seat.me.0 _ (same_value _ _ _ _ _ _ x.2 t.1.1)
    (all_told _ _ _ _ t.1.0)
    (c.store.ensures.2.0 ∙ ap (λ (v : TimeView). record v { hand = Idle }) (ap (λ m. m.0) x.3))
