use Rattle.poller.proofs.WorldLemmas.{raises_lawful}
use Rattle.poller.proofs.laws.raises_are_lawful.Goals as goal

pub returns : goal.returns
returns c = raises_lawful
