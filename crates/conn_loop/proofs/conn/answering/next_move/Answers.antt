use Rattle.app_trait.specs.Moves.{text_of}
use Rattle.conn_loop.proofs.RespondLemmas.{answer_sent}
use Rattle.conn_loop.proofs.conn.answering.next_move.Goals as goal

pub returns-clause-sendable : goal.returns-clause-sendable
returns-clause-sendable g c =
    answer_sent (g.A.App.moves c.args.app.now)
    (text_of c.args.request.now) c.args.seen c.reply.result c.reply.new.path
    (g.met.A.App.proper c.args.app.now (text_of c.args.request.now) c.args.seen) c.reply.ensures.is
    c.reply.ensures.fits c.requires.short
