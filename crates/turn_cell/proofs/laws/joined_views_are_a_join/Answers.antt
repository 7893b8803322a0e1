use Rattle.turn_cell.proofs.Steps.{is_joined}
use Rattle.turn_cell.proofs.laws.joined_views_are_a_join.Goals as goal

pub returns : goal.returns
returns g c = λ v o w are fits is. is_joined v o w are fits is
