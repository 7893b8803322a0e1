use Rattle.reg_keys.proofs.RunsRegistered.{runs_what_was_registered}
use Rattle.reg_keys.proofs.laws.legal_runs_what_was_registered.Goals as goal

pub returns : goal.returns
returns c = runs_what_was_registered
