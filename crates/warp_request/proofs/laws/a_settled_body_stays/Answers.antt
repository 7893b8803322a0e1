use Rattle.warp_request.specs.BodyGrowthLaws.{body_stays, body_within}
use Rattle.warp_request.specs.StatusLaws.{body_status}
use Rattle.warp_request.proofs.laws.a_settled_body_stays.Goals as goal

pub returns-clause-stays : goal.returns-clause-stays
returns-clause-stays c = body_stays

pub returns-clause-within : goal.returns-clause-within
returns-clause-within c = body_within

pub returns-clause-refuses : goal.returns-clause-refuses
returns-clause-refuses c = body_status
