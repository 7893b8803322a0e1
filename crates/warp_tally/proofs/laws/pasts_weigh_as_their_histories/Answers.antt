use Rattle.warp_tally.proofs.Sums.{past_weighs}
use Rattle.warp_tally.proofs.laws.pasts_weigh_as_their_histories.Goals as goal

pub returns : goal.returns
returns c = past_weighs
