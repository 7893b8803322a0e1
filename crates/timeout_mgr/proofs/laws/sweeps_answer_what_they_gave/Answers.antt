use Rattle.timeout_mgr.proofs.Promises.{gave_all}
use Rattle.timeout_mgr.proofs.laws.sweeps_answer_what_they_gave.Goals as goal

pub returns : goal.returns
returns c = gave_all
