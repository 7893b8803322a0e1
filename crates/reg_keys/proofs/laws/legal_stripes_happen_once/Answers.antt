use Rattle.reg_keys.proofs.AllStripes.{happens_once}
use Rattle.reg_keys.proofs.laws.legal_stripes_happen_once.Goals as goal

pub returns : goal.returns
returns c = λ firsts pasts l. happens_once firsts pasts l
