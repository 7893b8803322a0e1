use Rattle.std.proofs.Common.{◌∙◌, ◌-◌, arith}
use Rattle.conn_loop.proofs.WindowLemmas.{front_kept}
use Rattle.conn_loop.proofs.buffer.make_room.Goals as goal

pub returns-then-len-long-clause-same : goal.returns-then-len-long-clause-same
returns-then-len-long-clause-same c =
    front_kept (c.args.end - c.args.start) _ c.move_to_front.new.room.items c.widen.new.room.items
    (omega (arith, c.requires.inside, c.requires.order, c.move_to_front.ensures.long)) c.widen.ensures.same
    ∙ c.move_to_front.ensures.same
