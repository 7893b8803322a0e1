use Rattle.std.proofs.Common.{◌≡◌, length, ap, arith}
use Rattle.poller.specs.Deliveries.{word_of}
use Rattle.poller.specs.Seats.{knowledge_of}
use Rattle.poller.proofs.Steps.{looks}
use Rattle.poller.proofs.net.Net.has_left.Goals as goal

pub load-requires : goal.load-requires
load-requires c =
    let sized = c.args.self.now.sized in
    let inside = c.requires.inside in
    let limits = ap length c.requires.own.2 in
    let word : word_of (knowledge_of c.args.seat.now).role ≡ c.args.word = ap word_of c.requires.delivers in
    (c.requires.own.0, omega arith, looks _ _ _ _ _ (omega (arith, sized, limits, word)))
