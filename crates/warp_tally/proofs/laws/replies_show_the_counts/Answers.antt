use Rattle.warp_tally.proofs.Sums.{shows_counts}
use Rattle.warp_tally.proofs.laws.replies_show_the_counts.Goals as goal

pub returns : goal.returns
returns c = shows_counts
