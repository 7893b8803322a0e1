use Rattle.std.proofs.Common.{arith}
use Rattle.poller.proofs.Steps.{cuts_reader}
use Rattle.poller.proofs.net.Net.reader.Goals as goal

pub split_seat-requires : goal.split_seat-requires
split_seat-requires c =
    let sized = c.args.self.now.sized in
    (c.requires.own.0, omega arith, cuts_reader _ _ _ c.requires.some)
