use Rattle.warp_commands.proofs.HeadlineLemmas.{keeps_callbacks}
use Rattle.warp_commands.proofs.laws.level_passes_keep_callbacks.Goals as goal

pub returns : goal.returns
returns g c = λ known xs lawful level events.
    let laws = c.callbacks_run_once.ensures in
    keeps_callbacks known laws.once laws.event laws.everywhere
    (c.level_passes_add_up.ensures known) xs lawful level events
