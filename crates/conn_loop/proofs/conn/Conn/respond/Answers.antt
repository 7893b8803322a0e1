use Rattle.std.proofs.Common.{◌≡◌, ◌<◌, ◌∙◌, ap, sym, subst, refl, arith, ℕ, List, [], ◌∷◌, ◌++◌, None, Some}
use Rattle.conn_loop.specs.declared.step.Step.TheVariants.{WantFile}
use Rattle.conn_loop.specs.Moves.{stage_behind}
use Rattle.conn_loop.specs.Stages.{Stage, failing, IsReadyStage}
use Rattle.conn_loop.specs.ConnState.{AsksFor, IsAsking, IsAskingStage, ConnState, held_lease}
use Rattle.conn_loop.specs.Steps.{to_go}
use Rattle.conn_loop.proofs.CauseLemmas.{clocked_none, clocked_one, goes_on, goes_still, goes_asks}
use Rattle.conn_loop.proofs.MeasureLemmas.{to_go_same, asks_nearer}
use Rattle.conn_loop.proofs.RespondLemmas.{asks_for, can_send, respond_for, responded_nearer, to_go_left}
use Rattle.conn_loop.proofs.RespondLemmas.{way_kept}
use Rattle.conn_loop.proofs.StageLemmas.{behind_quiet, plain_quiet, ready_plain}
use Rattle.conn_loop.proofs.CallLemmas.{proceeds_stopped, proceeds_quiet}
use Rattle.conn_loop.proofs.conn.Conn.respond.Goals as goal

pub consult-requires-clause-some : goal.consult-requires-clause-some
consult-requires-clause-some g c =
    subst (λ (s : ConnState). 0 < s.left) (sym c.make_way.ensures.same) c.requires.some

pub consult-requires-clause-ready : goal.consult-requires-clause-ready
consult-requires-clause-ready g c =
    subst (λ (s : ConnState). IsReadyStage s.stage) (sym c.make_way.ensures.same) c.requires.ready

pub consult-requires-clause-asks : goal.consult-requires-clause-asks
consult-requires-clause-asks g c =
    subst (λ (s : ConnState). AsksFor (g.A.App.moves c.args.app.now) s.stage)
    (sym c.make_way.ensures.same) c.requires.asks

pub returns-in-Some-clause-proceeds : goal.returns-in-Some-clause-proceeds
returns-in-Some-clause-proceeds g c =
    let old = c.args.self.now in
    proceeds_stopped (g.A.App.moves c.args.app.now) (Some c.in-Some.step) old c.make_way.new.self
    (g.L.Link.told c.args.link.now) (g.L.Link.told c.make_way.new.link)
    c.make_way.ensures.same c.requires.asks
    (plain_quiet old.stage (ready_plain old.stage c.requires.ready)).0 c.in-Some.ensures.goes

pub returns-in-Look-clause-stands : goal.returns-in-Look-clause-stands
returns-in-Look-clause-stands g c = λ x.
    asks_for (g.A.App.moves c.args.app.now) g.F.Files.folder c.make_way.new.self c.consult.new.self
    (g.L.Link.told c.make_way.new.link)
    (subst (λ (s : ConnState). 0 < s.left) (sym c.make_way.ensures.same) c.requires.some) c.in-Look.ensures
    (c.in_default.ensures.stands _ x)

pub returns-in-Look-clause-proceeds : goal.returns-in-Look-clause-proceeds
returns-in-Look-clause-proceeds g c = record {
  over =
      ap (λ (s : ConnState). s.over) c.in-Look.ensures.same
      ∙ ap (λ (s : ConnState). s.over) c.make_way.ensures.same;
  lent =
      ap (λ (s : ConnState). held_lease s) c.in-Look.ensures.same
      ∙ ap (λ (s : ConnState). held_lease s) c.make_way.ensures.same;
  asks =
      subst (λ (s : ConnState). AsksFor (g.A.App.moves c.args.app.now) s.stage)
      (sym c.in-Look.ensures.same) c.in-Look.ensures.looks;
  file = ((λ e. subst (λ (s : ConnState). IsAsking s) (sym c.in-Look.ensures.same) tt), (λ e. refl));
}

pub returns-in-Look-clause-nearer : goal.returns-in-Look-clause-nearer
returns-in-Look-clause-nearer g c = (
  omega (
    arith,
    asks_nearer (g.A.App.moves c.args.app.now) c.make_way.new.self c.consult.new.self c.in-Look.ensures,
    to_go_same c.args.self.now c.make_way.new.self c.make_way.ensures.same,
  ),
  tt,
)

pub returns-in-Look-clause-clocked : goal.returns-in-Look-clause-clocked
returns-in-Look-clause-clocked g c =
    clocked_none c.args.self.now c.consult.new.self (g.C.Clock.told c.args.clock.now)
    (ap (λ (s : ConnState). s.moments) c.in-Look.ensures.same
    ∙ ap (λ (s : ConnState). s.moments) c.make_way.ensures.same)

pub returns-in-Look-clause-goes : goal.returns-in-Look-clause-goes
returns-in-Look-clause-goes g c =
    goes_on (Some WantFile) c.args.self.now c.make_way.new.self c.consult.new.self
    (g.L.Link.told c.args.link.now) (g.L.Link.told c.make_way.new.link) (g.L.Link.told c.make_way.new.link)
    c.in_default.ensures.goes (goes_asks (g.A.App.moves c.args.app.now) c.make_way.new.self c.consult.new.self
    (g.L.Link.told c.make_way.new.link) c.in-Look.ensures)

pub answer-requires-clause-room : goal.answer-requires-clause-room
answer-requires-clause-room g c =
    way_kept (g.A.App.moves c.args.app.now) c.in-Answer.response c.make_way.new.self c.consult.new.self
    c.in-Answer.ensures c.in_default.ensures.room

pub answer-requires-clause-some : goal.answer-requires-clause-some
answer-requires-clause-some g c =
    subst (λ (s : ConnState). 0 < s.left) (sym c.in-Answer.ensures.same)
    (subst (λ (s : ConnState). 0 < s.left) (sym c.make_way.ensures.same) c.requires.some)

pub answer-requires-clause-sendable : goal.answer-requires-clause-sendable
answer-requires-clause-sendable g c =
    can_send (g.A.App.moves c.args.app.now) c.in-Answer.response c.make_way.new.self
    c.consult.new.self c.in-Answer.ensures

pub returns-in-Answer-clause-stands : goal.returns-in-Answer-clause-stands
returns-in-Answer-clause-stands g c = λ x.
    respond_for (g.A.App.moves c.args.app.now) g.F.Files.folder c.make_way.new.self c.consult.new.self
    c.answer.new.self (g.L.Link.told c.make_way.new.link)
    c.answer.ensures.0 c.in-Answer.response c.in-Answer.ensures c.answer.ensures.1
    (c.in_default.ensures.stands _ x)

pub returns-in-Answer-clause-proceeds : goal.returns-in-Answer-clause-proceeds
returns-in-Answer-clause-proceeds g c =
    let quiet = behind_quiet c.in-Answer.response.content in
    let stage : c.answer.new.self.stage ≡ stage_behind c.in-Answer.response.content =
    ap (λ (s : ConnState). s.stage) c.answer.ensures.1.same in
    proceeds_quiet (g.A.App.moves c.args.app.now) c.args.self.now c.answer.new.self
    (ap (λ (s : ConnState). s.over) c.answer.ensures.1.same
    ∙ ap (λ (s : ConnState). s.over) c.in-Answer.ensures.same
    ∙ ap (λ (s : ConnState). s.over) c.make_way.ensures.same)
    (ap (λ (s : ConnState). held_lease s) c.answer.ensures.1.same
    ∙ ap (λ (s : ConnState). held_lease s) c.in-Answer.ensures.same
    ∙ ap (λ (s : ConnState). held_lease s) c.make_way.ensures.same)
    (subst (λ (st : Stage). AsksFor (g.A.App.moves c.args.app.now) st) (sym stage)
    (quiet.2 (g.A.App.moves c.args.app.now)))
    (λ asks. quiet.0 (subst (λ (st : Stage). IsAskingStage st) stage asks))

pub returns-in-Answer-clause-nearer : goal.returns-in-Answer-clause-nearer
returns-in-Answer-clause-nearer g c =
    let fewer : to_go c.answer.new.self < to_go c.args.self.now =
    omega (
      arith,
      responded_nearer c.in-Answer.response c.answer.ensures.0 c.consult.new.self
          c.answer.new.self c.answer.ensures.1,
      to_go_left (g.A.App.moves c.args.app.now) c.in-Answer.response c.make_way.new.self
          c.consult.new.self c.in-Answer.ensures,
      to_go_same c.args.self.now c.make_way.new.self c.make_way.ensures.same,
    ) in
    (omega (arith, fewer), fewer)

pub returns-in-Answer-clause-clocked : goal.returns-in-Answer-clause-clocked
returns-in-Answer-clause-clocked g c =
    clocked_one c.args.self.now c.answer.new.self c.answer.ensures.0 _ _
    (ap (λ (s : ConnState). s.moments) c.answer.ensures.1.same
    ∙ ap (λ (v : List ℕ). v ++ c.answer.ensures.0 ∷ [])
    (ap (λ (s : ConnState). s.moments) c.in-Answer.ensures.same
    ∙ ap (λ (s : ConnState). s.moments) c.make_way.ensures.same))
    c.answer.ensures.2

pub returns-in-Answer-clause-goes : goal.returns-in-Answer-clause-goes
returns-in-Answer-clause-goes g c =
    let mid = c.make_way.new.self in
    let link = g.L.Link.told c.make_way.new.link in
    goes_on None c.args.self.now mid c.answer.new.self
    (g.L.Link.told c.args.link.now) link link c.in_default.ensures.goes
    (goes_still mid c.answer.new.self link
    (ap (λ (s : ConnState). s.bytes) c.answer.ensures.1.same
    ∙ ap (λ (s : ConnState). s.bytes) c.in-Answer.ensures.same)
    (ap (λ (s : ConnState). s.waits) c.answer.ensures.1.same
    ∙ ap (λ (s : ConnState). s.waits) c.in-Answer.ensures.same)
    (ap (λ (s : ConnState). failing s.stage) c.answer.ensures.1.same
    ∙ (behind_quiet c.in-Answer.response.content).1
    ∙ sym (ap (λ (st : Stage). failing st) c.in-Answer.ensures.was)))
