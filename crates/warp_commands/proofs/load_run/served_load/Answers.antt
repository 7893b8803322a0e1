use Rattle.std.proofs.Common.{refl, ◌∙◌}
use Rattle.poller.specs.Rounds.{no_faults}
use Rattle.warp_passes.specs.Passes.{pass_view}
use Rattle.warp_commands.proofs.DrivenLemmas.{was_driven}
use Rattle.warp_commands.proofs.load_run.served_load.Goals as goal

pub returns : goal.returns
returns g c =
    let served = c.in_ok-served.ensures in
    was_driven (λ p. no_faults) (λ p. refl) c.args.load.connections c.args.dispatchers _ c.in_ok-served.served
    (c.in_ok-kits.ensures.count ∙ c.in_ok-listener.ensures.count)
    served.own served.level
    (c.level_passes_keep_callbacks.ensures pass_view) served.events c.served_runs_add_up.ensures
    served.explained served.count served.ends served.same
