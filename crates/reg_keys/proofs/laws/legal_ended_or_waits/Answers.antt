use Rattle.reg_keys.proofs.EndedOrWaits.{ended_or_waits}
use Rattle.reg_keys.proofs.laws.legal_ended_or_waits.Goals as goal

pub returns : goal.returns
returns c = ended_or_waits
