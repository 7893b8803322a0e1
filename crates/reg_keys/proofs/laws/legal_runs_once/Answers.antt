use Rattle.reg_keys.proofs.Reuse.{runs_once}
use Rattle.reg_keys.proofs.laws.legal_runs_once.Goals as goal

pub returns : goal.returns
returns c = runs_once
