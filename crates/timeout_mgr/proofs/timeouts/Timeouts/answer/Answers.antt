use Rattle.std.proofs.Common.{arith}
use Rattle.timeout_mgr.proofs.Steps.{ends_call}
use Rattle.timeout_mgr.proofs.Told.{answered}
use Rattle.timeout_mgr.proofs.timeouts.Timeouts.answer.Goals as goal

pub load-requires : goal.load-requires
load-requires g c = let sized = c.args.self.now.sized in
    (c.requires.own, omega arith, ends_call _ _ _ _ (omega arith) _)

pub returns-clause-answers : goal.returns-clause-answers
returns-clause-answers g c = answered _ _ _ _ c.load.ensures.2.0
