use Rattle.timeout_mgr.proofs.Promises.{keeps_opening}
use Rattle.timeout_mgr.proofs.laws.watches_keep_their_openings.Goals as goal

pub returns : goal.returns
returns c = λ log x o. keeps_opening log x o
