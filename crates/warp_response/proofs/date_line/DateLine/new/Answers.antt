use Rattle.std.proofs.Common.{refl, arith}
use Rattle.warp_response.specs.Head.{date_line}
use Rattle.warp_response.proofs.date_line.DateLine.new.Goals as goal

pub invariant_of-result : goal.invariant_of-result
unfolding date_line
invariant_of-result c = record { within = omega arith; shows = refl }
