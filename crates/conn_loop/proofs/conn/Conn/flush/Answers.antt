use Rattle.std.proofs.Common.{rules}
use Rattle.conn_loop.proofs.WritingLemmas.{sends_of}
use Rattle.conn_loop.proofs.conn.Conn.flush.Goals as goal

pub returns : goal.returns
returns g c =
    sends_of c.write_out-n.result.1 _ c.args.self.now c.write_out-n.result.0 c.bytes.result.now
    c.skip.new.self _ _ _ _ c.self.view_is c.bytes.ensures.is c.write_out-n.ensures.within
    c.skip.ensures c.write_out-n.ensures.writes (search rules) c.waits_behind-self-inside.ensures
