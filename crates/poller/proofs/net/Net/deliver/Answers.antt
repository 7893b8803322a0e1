use Rattle.std.proofs.Common.{arith}
use Rattle.poller.proofs.Steps.{delivers}
use Rattle.poller.proofs.net.Net.deliver.Goals as goal

pub fetch_add-requires : goal.fetch_add-requires
fetch_add-requires c =
    let sized = c.args.self.now.sized in
    let inside = c.requires.inside in (
      c.requires.own.0,
      omega arith,
      delivers _ _ _ _ _ c.requires.alone c.requires.own.2 c.requires.below c.requires.small,
    )
