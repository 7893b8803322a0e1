use Rattle.reg_keys.proofs.OwnOpenings.{names_own_openings}
use Rattle.reg_keys.proofs.laws.legal_names_own_openings.Goals as goal

pub returns : goal.returns
returns c = λ s c past low l. names_own_openings s c low past l
