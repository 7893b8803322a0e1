use Rattle.event_mgr.proofs.NumbersOut.{given_back}
use Rattle.event_mgr.proofs.laws.a_number_is_given_back_once.Goals as goal

pub returns : goal.returns
returns c = given_back
