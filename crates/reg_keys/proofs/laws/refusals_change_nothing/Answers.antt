use Rattle.reg_keys.proofs.Refusing.{changes_nothing}
use Rattle.reg_keys.proofs.laws.refusals_change_nothing.Goals as goal

pub returns : goal.returns
returns c = changes_nothing
