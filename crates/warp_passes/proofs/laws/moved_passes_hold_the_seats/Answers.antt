use Rattle.warp_passes.proofs.SameOwn.{moved_seats}
use Rattle.warp_passes.proofs.laws.moved_passes_hold_the_seats.Goals as goal

pub returns : goal.returns
returns g c = λ known other xs ys same once. moved_seats known other xs ys same once
