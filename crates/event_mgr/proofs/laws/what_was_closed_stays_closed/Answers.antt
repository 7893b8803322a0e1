use Rattle.event_mgr.proofs.BothWeights.{closed_for_good}
use Rattle.event_mgr.proofs.laws.what_was_closed_stays_closed.Goals as goal

pub returns : goal.returns
returns g c = λ o. closed_for_good c.legal_closes_for_good.ensures g.T.Load.tag o
