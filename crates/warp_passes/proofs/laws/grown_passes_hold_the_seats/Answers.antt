use Rattle.warp_passes.proofs.SameOwn.{grown_seats}
use Rattle.warp_passes.proofs.laws.grown_passes_hold_the_seats.Goals as goal

pub returns : goal.returns
returns g c = λ known xs ys grown once. grown_seats known xs ys grown once
