use Rattle.timeout_mgr.proofs.Promises.{ends_once}
use Rattle.timeout_mgr.proofs.laws.watches_end_once.Goals as goal

pub returns : goal.returns
returns c = ends_once
