use Rattle.timeout_mgr.proofs.Promises.{was_unborn}
use Rattle.timeout_mgr.proofs.laws.added_watches_were_unborn.Goals as goal

pub returns : goal.returns
returns c = λ x o past l. was_unborn x.slot x.number past l.1 l.0
