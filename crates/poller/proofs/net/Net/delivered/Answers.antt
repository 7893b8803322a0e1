use Rattle.std.proofs.Common.{arith}
use Rattle.poller.proofs.Steps.{receives}
use Rattle.poller.proofs.net.Net.delivered.Goals as goal

pub load-requires : goal.load-requires
load-requires c =
    let sized = c.args.self.now.sized in
    let inside = c.requires.inside in
    (c.requires.own.0, omega arith, receives _ _ _ _ _ c.requires.reads c.requires.own.2)
