use Rattle.warp_tally.proofs.Sums.{first_stays}
use Rattle.warp_tally.proofs.laws.stops_stay.Goals as goal

pub returns : goal.returns
returns c = first_stays
