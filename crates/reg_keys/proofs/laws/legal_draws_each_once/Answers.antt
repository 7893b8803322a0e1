use Rattle.reg_keys.proofs.Drawing.{draws_each_once}
use Rattle.reg_keys.proofs.laws.legal_draws_each_once.Goals as goal

pub returns : goal.returns
returns c = draws_each_once
