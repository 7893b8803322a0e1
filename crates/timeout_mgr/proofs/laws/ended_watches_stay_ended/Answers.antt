use Rattle.timeout_mgr.proofs.Promises.{stays_ended}
use Rattle.timeout_mgr.proofs.laws.ended_watches_stay_ended.Goals as goal

pub returns : goal.returns
returns c = stays_ended
