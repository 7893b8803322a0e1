use Rattle.warp_load.proofs.RangeLemmas.{ranges}
use Rattle.warp_load.proofs.laws.a_load_has_its_ranges.Goals as goal

pub returns : goal.returns
returns c = ranges
