use Rattle.conn_loop.specs.declared.writing.WriteEnd.TheVariants.{All, Waits, Fails}
use Rattle.conn_loop.proofs.WriteStepLemmas.{due_for}
use Rattle.conn_loop.proofs.CauseLemmas.{goes_due}
use Rattle.conn_loop.proofs.conn.Conn.write_due.Goals as goal

pub returns-in-All-clause-stands : goal.returns-in-All-clause-stands
returns-in-All-clause-stands g c =
    λ serving x.
    due_for All serving _ _ (g.L.Link.told c.args.link.now)
    (g.L.Link.told c.flush.new.link) c.in-All.ensures x

pub returns-in-Waits-clause-stands : goal.returns-in-Waits-clause-stands
returns-in-Waits-clause-stands g c =
    λ serving x.
    due_for Waits serving _ _ (g.L.Link.told c.args.link.now)
    (g.L.Link.told c.flush.new.link) c.in-Waits.ensures x

pub returns-in-Fails-clause-stands : goal.returns-in-Fails-clause-stands
returns-in-Fails-clause-stands g c =
    λ serving x.
    due_for Fails serving _ _ (g.L.Link.told c.args.link.now)
    (g.L.Link.told c.flush.new.link) c.in-Fails.ensures x

pub returns-in-All-clause-goes : goal.returns-in-All-clause-goes
returns-in-All-clause-goes g c =
    goes_due All c.args.self.now c.flush.new.self (g.L.Link.told c.args.link.now)
    (g.L.Link.told c.flush.new.link) c.in-All.ensures

pub returns-in-Waits-clause-goes : goal.returns-in-Waits-clause-goes
returns-in-Waits-clause-goes g c =
    goes_due Waits c.args.self.now c.flush.new.self (g.L.Link.told c.args.link.now)
    (g.L.Link.told c.flush.new.link) c.in-Waits.ensures

pub returns-in-Fails-clause-goes : goal.returns-in-Fails-clause-goes
returns-in-Fails-clause-goes g c =
    goes_due Fails c.args.self.now c.flush.new.self (g.L.Link.told c.args.link.now)
    (g.L.Link.told c.flush.new.link) c.in-Fails.ensures
