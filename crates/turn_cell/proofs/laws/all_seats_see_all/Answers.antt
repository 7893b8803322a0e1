use Rattle.turn_cell.proofs.Entries.{all_seen}
use Rattle.turn_cell.proofs.laws.all_seats_see_all.Goals as goal

pub returns : goal.returns
returns g c = λ classes seen log all ahead. all_seen classes all seen log ahead
