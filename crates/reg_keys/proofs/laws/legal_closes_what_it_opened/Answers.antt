use Rattle.reg_keys.proofs.Openings.{closes_what_it_opened}
use Rattle.reg_keys.proofs.laws.legal_closes_what_it_opened.Goals as goal

pub returns : goal.returns
returns c = closes_what_it_opened
