use Rattle.std.proofs.Common.{◌∷◌}
use Rattle.warp_passes.proofs.LevelSums.{all_add_up, managers_lawful}
use Rattle.warp_passes.proofs.laws.level_passes_add_up.Goals as goal

pub returns : goal.returns
returns g c = λ known x xs lawful level. all_add_up known x xs lawful level
    (c.level_passes_add_up.ensures (λ y. (known y).mgr) x xs
    (managers_lawful known (x ∷ xs) lawful) level.mgr)
    c.pasts_weigh_as_their_histories.ensures
