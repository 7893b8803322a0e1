use Rattle.std.proofs.Common.{arith}
use Rattle.poller.proofs.Steps.{cuts_first}
use Rattle.poller.proofs.net.Net.first.Goals as goal

pub split_seat-requires : goal.split_seat-requires
split_seat-requires c =
    let sized = c.args.self.now.sized in
    (c.requires.own.0, omega arith, cuts_first _ _ _ c.requires.some)
