use Rattle.reg_keys.proofs.EndsRegistered.{ends_what_was_registered}
use Rattle.reg_keys.proofs.laws.legal_ends_what_was_registered.Goals as goal

pub returns : goal.returns
returns c = ends_what_was_registered
