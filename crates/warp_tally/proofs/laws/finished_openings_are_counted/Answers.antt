use Rattle.warp_tally.proofs.Sums.{finished_counted}
use Rattle.warp_tally.proofs.laws.finished_openings_are_counted.Goals as goal

pub returns : goal.returns
returns c = finished_counted
