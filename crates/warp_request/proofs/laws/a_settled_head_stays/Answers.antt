use Rattle.warp_request.specs.GrowthLaws.{next_stays}
use Rattle.warp_request.specs.NextLaws.{next_tells}
use Rattle.warp_request.proofs.laws.a_settled_head_stays.Goals as goal

pub returns-clause-stays : goal.returns-clause-stays
returns-clause-stays c = next_stays

pub returns-clause-tells : goal.returns-clause-tells
returns-clause-tells c = next_tells
