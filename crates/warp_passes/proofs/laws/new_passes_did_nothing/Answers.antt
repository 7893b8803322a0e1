use Rattle.warp_passes.proofs.SameOwn.{did_nothing}
use Rattle.warp_passes.proofs.laws.new_passes_did_nothing.Goals as goal

pub returns : goal.returns
returns g c = λ v l new. did_nothing v l new
