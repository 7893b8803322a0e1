use Rattle.turn_cell.proofs.Steps.{is_split}
use Rattle.turn_cell.proofs.laws.halves_are_a_split.Goals as goal

pub returns : goal.returns
returns g c = λ v w o are firsts left right. is_split v w o are firsts left right
