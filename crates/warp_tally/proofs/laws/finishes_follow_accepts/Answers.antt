use Rattle.warp_tally.proofs.Sums.{follows_accepts}
use Rattle.warp_tally.proofs.laws.finishes_follow_accepts.Goals as goal

pub returns : goal.returns
returns c = follows_accepts
