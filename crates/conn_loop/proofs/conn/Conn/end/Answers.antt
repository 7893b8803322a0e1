use Rattle.std.proofs.Common.{subst}
use Rattle.conn_loop.specs.ConnState.{IsAsking}
use Rattle.conn_loop.proofs.WriteStepLemmas.{end_for}
use Rattle.conn_loop.proofs.CauseLemmas.{ends_done, ends_stopped}
use Rattle.conn_loop.proofs.conn.Conn.end.Goals as goal

pub returns-in-None-clause-stands : goal.returns-in-None-clause-stands
returns-in-None-clause-stands g c = λ serving x.
    end_for c.args.end serving c.args.self.now c.write_due.new.self (g.L.Link.told c.write_due.new.link)
    c.requires.may c.in-None.ensures.done c.write_due.ensures.same (c.in-None.ensures.stands serving x)

pub returns-in-None-clause-goes : goal.returns-in-None-clause-goes
returns-in-None-clause-goes g c =
    ends_done c.args.end c.args.self.now c.write_due.new.self (g.L.Link.told c.args.link.now)
    (g.L.Link.told c.write_due.new.link) c.in-None.ensures.goes

pub returns-in-Some-clause-goes : goal.returns-in-Some-clause-goes
returns-in-Some-clause-goes g c =
    ends_stopped c.args.end c.in-Some.step c.args.self.now c.write_due.new.self
    (g.L.Link.told c.args.link.now) (g.L.Link.told c.write_due.new.link)
    (λ asks. c.requires.quiet (subst IsAsking c.write_due.ensures.same asks)) c.in-Some.ensures.goes
