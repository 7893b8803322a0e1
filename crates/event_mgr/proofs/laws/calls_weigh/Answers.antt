use Rattle.event_mgr.proofs.BothWeights.{calls_weigh_all}
use Rattle.event_mgr.proofs.laws.calls_weigh.Goals as goal

pub returns : goal.returns
returns g c = calls_weigh_all g.T.Load.tag
