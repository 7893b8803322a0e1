use Rattle.reg_keys.proofs.Wakes.{loses_no_wake_up}
use Rattle.reg_keys.proofs.laws.lawful_worlds_lose_no_wake_up.Goals as goal

pub returns : goal.returns
returns c = loses_no_wake_up
