use Rattle.std.proofs.Common.{◌≡◌, ap, sym, subst, refl, arith}
use Rattle.conn_loop.specs.Replying.{serving_over}
use Rattle.conn_loop.specs.Stages.{Stage}
use Rattle.conn_loop.specs.ConnState.{AsksFor, IsAskingStage, ConnState, held_lease}
use Rattle.conn_loop.proofs.CauseLemmas.{clocked_none, ends_over, end_fault, goes_over, goes_waits}
use Rattle.conn_loop.proofs.MeasureLemmas.{to_go_same}
use Rattle.conn_loop.proofs.StageLemmas.{sending_asks, sending_quiet}
use Rattle.conn_loop.proofs.CallLemmas.{waits_for}
use Rattle.conn_loop.proofs.conn.Conn.step.Goals as goal

pub returns-in-Answer-clause-goes : goal.returns-in-Answer-clause-goes
returns-in-Answer-clause-goes g c =
    goes_over c.answer_next.result c.args.self.now c.answer_next.new.self (g.L.Link.told c.args.link.now)
    (g.L.Link.told c.answer_next.new.link) (g.F.Files.told c.args.files.now)
    c.answer_next.ensures.goes

pub returns-in-Wait-clause-stands : goal.returns-in-Wait-clause-stands
returns-in-Wait-clause-stands g c =
    λ x. waits_for (serving_over (g.A.App.moves c.args.app.now) g.F.Files.folder) c.args.self.now
    (g.L.Link.told c.args.link.now) c.in-Wait.ensures.0 c.in-Wait.ensures.1 x

pub returns-in-Wait-clause-proceeds : goal.returns-in-Wait-clause-proceeds
returns-in-Wait-clause-proceeds g c = record {
  over = refl;
  lent = refl;
  asks = c.requires.asks;
  file = ((λ e. c.in-Wait.ensures.0), (λ asks. refl));
}

pub returns-in-Wait-clause-nearer : goal.returns-in-Wait-clause-nearer
returns-in-Wait-clause-nearer g c = (omega arith, tt)

pub returns-in-Wait-clause-clocked : goal.returns-in-Wait-clause-clocked
returns-in-Wait-clause-clocked g c = clocked_none c.args.self.now c.args.self.now _ refl

pub returns-in-Wait-clause-goes : goal.returns-in-Wait-clause-goes
returns-in-Wait-clause-goes g c =
    goes_waits c.args.self.now (g.L.Link.told c.args.link.now)
    (g.F.Files.told c.args.files.now) c.in-Wait.ensures.0

pub returns-in-Send-clause-stands : goal.returns-in-Send-clause-stands
returns-in-Send-clause-stands g c = λ x. c.send_part.ensures.stands (g.A.App.moves c.args.app.now) x

pub returns-in-Send-clause-proceeds : goal.returns-in-Send-clause-proceeds
returns-in-Send-clause-proceeds g c = record {
  over = ap (λ (s : ConnState). s.over) c.send_part.ensures.same;
  lent = ap (λ (s : ConnState). held_lease s) c.send_part.ensures.same;
  asks = sending_asks (g.A.App.moves c.args.app.now) c.send_part.new.self.stage c.send_part.ensures.stage;
  file = (
    c.send_part.ensures.goes.file,
    (λ asks. absurd (sending_quiet c.send_part.new.self.stage c.send_part.ensures.stage asks)),
  );
}

pub returns-in-Send-clause-clocked : goal.returns-in-Send-clause-clocked
returns-in-Send-clause-clocked g c =
    clocked_none c.args.self.now c.send_part.new.self _
    (ap (λ (s : ConnState). s.moments) c.send_part.ensures.same)

pub returns-in-End-clause-stands : goal.returns-in-End-clause-stands
returns-in-End-clause-stands g c =
    λ x. c.end.ensures.stands (serving_over (g.A.App.moves c.args.app.now) g.F.Files.folder) x

pub returns-in-End-clause-proceeds : goal.returns-in-End-clause-proceeds
returns-in-End-clause-proceeds g c =
    let stage : c.end.new.self.stage ≡ c.args.self.now.stage =
    ap (λ (s : ConnState). s.stage) c.end.ensures.same in
    record {
      over = ap (λ (s : ConnState). s.over) c.end.ensures.same;
      lent = ap (λ (s : ConnState). held_lease s) c.end.ensures.same;
      asks = subst (λ (st : Stage). AsksFor (g.A.App.moves c.args.app.now) st) (sym stage) c.requires.asks;
      file = (
        (λ e. absurd (c.end.ensures.goes.file cc)),
        (λ asks. absurd (c.in-End.ensures.1 (subst (λ (st : Stage). IsAskingStage st) stage asks))),
      );
    }

pub returns-in-End-clause-nearer : goal.returns-in-End-clause-nearer
returns-in-End-clause-nearer g c =
    (omega (arith, to_go_same c.args.self.now c.end.new.self c.end.ensures.same), tt)

pub returns-in-End-clause-clocked : goal.returns-in-End-clause-clocked
returns-in-End-clause-clocked g c =
    clocked_none c.args.self.now c.end.new.self _ (ap (λ (s : ConnState). s.moments) c.end.ensures.same)

pub returns-in-End-clause-goes : goal.returns-in-End-clause-goes
returns-in-End-clause-goes g c =
    let link = g.L.Link.told c.args.link.now in
    let files = g.F.Files.told c.args.files.now in
    ends_over c.in-End.end c.end.result c.args.self.now c.end.new.self link
    (g.L.Link.told c.end.new.link) files
    (end_fault c.in-End.end c.args.self.now link
    (g.L.Link.told c.end.new.link) files files c.in-End.ensures.0) c.end.ensures.goes
