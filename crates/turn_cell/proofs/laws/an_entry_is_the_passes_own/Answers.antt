use Rattle.turn_cell.proofs.Entries.{entries_in_step}
use Rattle.turn_cell.proofs.laws.an_entry_is_the_passes_own.Goals as goal

pub returns : goal.returns
returns g c =
    λ classes seen between e full are foreign. entries_in_step classes seen between e full are foreign
