use Rattle.reg_keys.proofs.Consistent.{is_consistent}
use Rattle.reg_keys.proofs.laws.legal_is_consistent.Goals as goal

pub returns : goal.returns
returns c = is_consistent
