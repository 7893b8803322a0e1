use Rattle.std.proofs.Common.{None}
use Rattle.conn_loop.specs.Stages.{unread}
use Rattle.conn_loop.proofs.SupplyLemmas.{fresh_for}
use Rattle.conn_loop.proofs.conn.Conn.new.Goals as goal

pub returns-clause-represents : goal.returns-clause-represents
returns-clause-represents g c = λ moves link fresh.
    fresh_for moves g.F.Files.folder _ link
    (λ i. record {
      input = c.in_ok-input.ensures i;
      stage = unread;
      pending = c.in_ok-output.ensures i;
      lease = None;
      entry = None;
      moments = c.in_ok-moments.ensures.items i;
      left = 1000;
      over = None;
      bytes = 0;
      waits = 0;
    }) fresh
