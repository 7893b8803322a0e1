use Rattle.std.proofs.Common.{arith}
use Rattle.poller.proofs.Steps.{notes}
use Rattle.poller.proofs.net.Net.leave.Goals as goal

pub store-requires : goal.store-requires
store-requires c =
    let sized = c.args.self.now.sized in
    let inside = c.requires.inside in (
      c.requires.own.0,
      omega arith,
      notes _ _ _ _ _ c.args.word _ c.requires.reads c.requires.own.2 (omega arith),
    )
