use Rattle.event_mgr.proofs.Sums.{passes_add_up}
use Rattle.event_mgr.proofs.laws.level_passes_add_up.Goals as goal

pub returns : goal.returns
returns g c = λ known x xs lawful level. passes_add_up known x xs lawful level
