use Rattle.poller.proofs.WorldLemmas.{wait_lawful}
use Rattle.poller.proofs.laws.waits_are_lawful.Goals as goal

pub returns : goal.returns
returns c = wait_lawful
