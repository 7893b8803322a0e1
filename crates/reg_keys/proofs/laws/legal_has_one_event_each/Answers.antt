use Rattle.reg_keys.proofs.OneEvent.{has_one_event_each}
use Rattle.reg_keys.proofs.laws.legal_has_one_event_each.Goals as goal

pub returns : goal.returns
returns c = has_one_event_each
