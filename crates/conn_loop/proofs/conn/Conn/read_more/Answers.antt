use Rattle.std.proofs.Common.{arith, ◌<◌}
use Rattle.std.proofs.lemmas.Bool.{both_ways}
use Rattle.conn_loop.specs.declared.step.Step.TheVariants.{WantRead, Done}
use Rattle.conn_loop.specs.declared.step.End.TheVariants.{Clean, Cut, ReadFault}
use Rattle.conn_loop.specs.Steps.{to_go}
use Rattle.conn_loop.proofs.MeasureLemmas.{got_nearer}
use Rattle.conn_loop.proofs.ReadStepLemmas.{idle_of, stop_for, got_for}
use Rattle.conn_loop.proofs.conn.Conn.read_more.Goals as goal

pub returns-in-Got-clause-stands : goal.returns-in-Got-clause-stands
returns-in-Got-clause-stands g c = λ serving x.
    got_for _ serving c.write_due.new.self c.fill.new.self (g.L.Link.told c.write_due.new.link)
    (g.L.Link.told c.fill.new.link) c.in-Got.ensures.takes c.in-Got.ensures.same
    (c.in_default.ensures.stands serving x)

pub returns-in-Got-clause-nearer : goal.returns-in-Got-clause-nearer
returns-in-Got-clause-nearer g c =
    let fewer : to_go c.fill.new.self < to_go c.args.self.now =
    got_nearer _ c.args.self.now c.write_due.new.self c.fill.new.self _ _ c.write_due.ensures.same
    c.requires.wanting c.in-Got.ensures.takes c.in-Got.ensures.same in
    (omega (arith, fewer), fewer)

pub returns-in-End-clause-stands : goal.returns-in-End-clause-stands
returns-in-End-clause-stands g c = λ serving x.
    let between = c.is_between.ensures.0 c.if-is_between.true in
    stop_for (Done Clean) c.fill.result serving c.write_due.new.self c.fill.new.self
    (g.L.Link.told c.write_due.new.link) (g.L.Link.told c.fill.new.link) (c.in-End.is, between.0, between.1)
    (idle_of c.args.self.now c.write_due.new.self c.write_due.ensures.same c.in_default.ensures.done
    c.requires.some c.requires.wanting)
    c.fill.ensures.takes c.fill.ensures.same (c.in_default.ensures.stands serving x)

pub returns-in-End-2-clause-stands : goal.returns-in-End-2-clause-stands
returns-in-End-2-clause-stands g c = λ serving x.
    stop_for (Done Cut) c.fill.result serving c.write_due.new.self c.fill.new.self
    (g.L.Link.told c.write_due.new.link) (g.L.Link.told c.fill.new.link)
    (c.in-End-2.is, λ e. both_ways c.is_between.result c.if-is_between.false (c.is_between.ensures.1 e))
    (idle_of c.args.self.now c.write_due.new.self c.write_due.ensures.same c.in_default.ensures.done
    c.requires.some c.requires.wanting)
    c.fill.ensures.takes c.fill.ensures.same (c.in_default.ensures.stands serving x)

pub returns-in-NotYet-clause-stands : goal.returns-in-NotYet-clause-stands
returns-in-NotYet-clause-stands g c = λ serving x.
    stop_for WantRead c.fill.result serving c.write_due.new.self c.fill.new.self
    (g.L.Link.told c.write_due.new.link) (g.L.Link.told c.fill.new.link) c.in-NotYet.is
    (idle_of c.args.self.now c.write_due.new.self c.write_due.ensures.same c.in_default.ensures.done
    c.requires.some c.requires.wanting)
    c.fill.ensures.takes c.fill.ensures.same (c.in_default.ensures.stands serving x)

pub returns-in-Failed-clause-stands : goal.returns-in-Failed-clause-stands
returns-in-Failed-clause-stands g c = λ serving x.
    stop_for (Done ReadFault) c.fill.result serving c.write_due.new.self c.fill.new.self
    (g.L.Link.told c.write_due.new.link) (g.L.Link.told c.fill.new.link) c.in-Failed.is
    (idle_of c.args.self.now c.write_due.new.self c.write_due.ensures.same c.in_default.ensures.done
    c.requires.some c.requires.wanting)
    c.fill.ensures.takes c.fill.ensures.same (c.in_default.ensures.stands serving x)
