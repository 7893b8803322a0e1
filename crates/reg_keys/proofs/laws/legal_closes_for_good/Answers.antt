use Rattle.reg_keys.proofs.Openings.{closes_for_good}
use Rattle.reg_keys.proofs.laws.legal_closes_for_good.Goals as goal

pub returns : goal.returns
returns c = closes_for_good
