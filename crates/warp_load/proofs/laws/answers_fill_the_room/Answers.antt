use Rattle.warp_load.proofs.TotalLemmas.{length_load}
use Rattle.warp_load.proofs.laws.answers_fill_the_room.Goals as goal

pub returns : goal.returns
returns c = length_load c.a_settled_head_stays.ensures.stays c.a_settled_body_stays.ensures.stays
