use Rattle.warp_load.proofs.TotalLemmas.{finals_load, rest_load}
use Rattle.warp_load.proofs.laws.each_request_is_answered.Goals as goal

pub returns-clause-rest : goal.returns-clause-rest
returns-clause-rest c = rest_load c.a_settled_head_stays.ensures.stays c.a_settled_body_stays.ensures.stays

pub returns-clause-finals : goal.returns-clause-finals
returns-clause-finals c =
    finals_load c.a_settled_head_stays.ensures.stays c.a_settled_body_stays.ensures.stays
