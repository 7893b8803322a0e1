use Rattle.warp_tally.proofs.Sums.{closes_each}
use Rattle.warp_tally.proofs.laws.full_counts_close_each.Goals as goal

pub returns : goal.returns
returns c = closes_each
