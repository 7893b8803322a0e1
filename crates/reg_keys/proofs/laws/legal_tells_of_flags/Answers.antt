use Rattle.reg_keys.proofs.Flags.{tells_of_flags}
use Rattle.reg_keys.proofs.laws.legal_tells_of_flags.Goals as goal

pub returns : goal.returns
returns c = tells_of_flags
