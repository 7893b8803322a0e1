use Rattle.std.proofs.Common.{length, ap, ◌≡◌, ◌-◌, arith}
use Rattle.poller.specs.NetLinks.{script_of}
use Rattle.poller.specs.LinkSeats.{LinkSeatState}
use Rattle.poller.specs.Scripts.{steps_at}
use Rattle.poller.proofs.ScriptLemmas.{word_limit}
use Rattle.poller.proofs.mem_link.MemLink.delivered.Goals as goal

pub returns-clause-most : goal.returns-clause-most
returns-clause-most c =
    let seat = c.args.self.now.seat in
    let e = word_limit seat.scripts seat.word c.args.self.now.links in
    let s : length (script_of c.delivered.new.self) ≡ length (steps_at seat.scripts (seat.word - 1)) =
    ap (λ (p : LinkSeatState). length (script_of p)) c.delivered.ensures.found in
    omega (arith, c.delivered.ensures.most, e, s)
