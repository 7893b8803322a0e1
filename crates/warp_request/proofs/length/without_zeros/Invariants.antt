use Rattle.std.proofs.Common.{◌≡◌, length}
use Rattle.warp_request.specs.NamedLines.{skip_zeros}
use Rattle.warp_request.proofs.length.without_zeros.Given as goal

abbrev pub invariant-loop-rest : goal.invariant-loop-rest
invariant-loop-rest l = skip_zeros l.rest ≡ skip_zeros l.digits

abbrev pub decreases-loop-rest : goal.decreases-loop-rest
decreases-loop-rest l = length l.rest
