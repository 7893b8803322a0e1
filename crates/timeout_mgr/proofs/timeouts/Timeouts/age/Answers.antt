use Rattle.std.proofs.Common.{◌+◌, ◌*◌, ap, ◌∙◌, sym, arith}
use Rattle.timeout_mgr.proofs.Steps.{ages}
use Rattle.timeout_mgr.proofs.Told.{aged}
use Rattle.timeout_mgr.proofs.timeouts.Timeouts.age.Goals as goal

pub compare_exchange-requires : goal.compare_exchange-requires
compare_exchange-requires g c = let sized = c.args.self.now.sized in
    let inside = c.requires.inside in
    let n = sym c.requires.number.0 in (
      c.requires.own,
      omega arith,
      ages _ _ _ _ (omega arith) _ _ _ _ (c.word-active.ensures ∙ ap (λ u. 8 * u + 2) n)
          (c.word-inactive.ensures
          ∙ ap (λ u. 8 * u + 3) n),
    )

pub returns-clause-sweeps : goal.returns-clause-sweeps
returns-clause-sweeps g c = aged _ _ _ _ _ _ _ c.compare_exchange.ensures.2
