use Rattle.std.proofs.Common.{◌≡◌, ◌<◌, ◌∙◌, ap, sym, subst, arith, ℕ, List, [], ◌∷◌, ◌++◌, length, None}
use Rattle.std.proofs.Common.{Some}
use Rattle.conn_loop.specs.Stages.{Stage, failing, refusing, steps_left}
use Rattle.conn_loop.specs.ConnState.{AsksFor, IsAskingStage, ConnState, held_lease}
use Rattle.conn_loop.specs.Steps.{IsPlain, to_go}
use Rattle.conn_loop.specs.Replying.{serving_over}
use Rattle.conn_loop.proofs.CauseLemmas.{clocked_none, clocked_one, clocked_same, goes_on, goes_still}
use Rattle.conn_loop.proofs.MeasureLemmas.{nearer_from, to_go_same}
use Rattle.conn_loop.proofs.StageLemmas.{plain_quiet, ready_plain, wanting_plain}
use Rattle.conn_loop.proofs.JudgeStepLemmas.{refuse_for}
use Rattle.conn_loop.proofs.CallLemmas.{proceeds_quiet, proceeds_stopped, proceeds_then}
use Rattle.conn_loop.proofs.conn.Conn.answer_next.Goals as goal

pub look-requires : goal.look-requires
look-requires g c = record {
  plain = subst (λ (s : ConnState). IsPlain s.stage) (sym c.make_room.ensures.same) c.requires.plain;
}

pub returns-in-Some-clause-proceeds : goal.returns-in-Some-clause-proceeds
returns-in-Some-clause-proceeds g c =
    proceeds_stopped (g.A.App.moves c.args.app.now) (Some c.in-Some.step) c.args.self.now c.make_room.new.self
    (g.L.Link.told c.args.link.now) (g.L.Link.told c.make_room.new.link)
    c.make_room.ensures.same c.requires.asks
    (plain_quiet c.args.self.now.stage c.requires.plain).0 c.in-Some.ensures.goes

pub returns-in-Some-clause-nearer : goal.returns-in-Some-clause-nearer
returns-in-Some-clause-nearer g c =
    (omega (arith, to_go_same c.args.self.now c.make_room.new.self c.make_room.ensures.same), tt)

pub returns-in-Some-clause-clocked : goal.returns-in-Some-clause-clocked
returns-in-Some-clause-clocked g c =
    clocked_none c.args.self.now c.make_room.new.self _
    (ap (λ (s : ConnState). s.moments) c.make_room.ensures.same)

-- ---- what is ahead is judged

pub judge-requires-clause-room : goal.judge-requires-clause-room
judge-requires-clause-room g c =
    omega (arith, c.in_default.ensures.room, ap (λ (s : ConnState). length s.pending) c.look.ensures.same)

pub judge-requires-clause-some : goal.judge-requires-clause-some
judge-requires-clause-some g c =
    subst (λ (s : ConnState). 0 < s.left) (sym c.look.ensures.same)
    (subst (λ (s : ConnState). 0 < s.left) (sym c.make_room.ensures.same) c.requires.some)

pub returns-in-Unread-clause-stands : goal.returns-in-Unread-clause-stands
returns-in-Unread-clause-stands g c = λ x.
    let serving = serving_over (g.A.App.moves c.args.app.now) g.F.Files.folder in
    let link = g.L.Link.told c.make_room.new.link in
    c.judge.ensures.stands serving link
    (c.look.ensures.stands serving link (c.in_default.ensures.stands serving x))

pub returns-in-Unread-clause-proceeds : goal.returns-in-Unread-clause-proceeds
returns-in-Unread-clause-proceeds g c =
    proceeds_quiet (g.A.App.moves c.args.app.now) c.args.self.now c.judge.new.self
    (ap (λ (s : ConnState). s.over) c.judge.ensures.same ∙ ap (λ (s : ConnState). s.over) c.look.ensures.same
    ∙ ap (λ (s : ConnState). s.over) c.make_room.ensures.same)
    (ap (λ (s : ConnState). held_lease s) c.judge.ensures.same
    ∙ ap (λ (s : ConnState). held_lease s) c.look.ensures.same
    ∙ ap (λ (s : ConnState). held_lease s) c.make_room.ensures.same)
    (c.judge.ensures.plain.1 (g.A.App.moves c.args.app.now))
    (plain_quiet c.judge.new.self.stage c.judge.ensures.plain.0).0

pub returns-in-Unread-clause-nearer : goal.returns-in-Unread-clause-nearer
returns-in-Unread-clause-nearer g c =
    let fewer : to_go c.judge.new.self < to_go c.args.self.now =
    omega (
      arith,
      c.judge.ensures.nearer,
      c.look.ensures.nearer,
      to_go_same c.args.self.now c.make_room.new.self c.make_room.ensures.same,
    ) in
    (omega (arith, fewer), fewer)

pub returns-in-Unread-clause-clocked : goal.returns-in-Unread-clause-clocked
returns-in-Unread-clause-clocked g c =
    clocked_none c.args.self.now c.judge.new.self _
    (ap (λ (s : ConnState). s.moments) c.judge.ensures.same
    ∙ ap (λ (s : ConnState). s.moments) c.look.ensures.same
    ∙ ap (λ (s : ConnState). s.moments) c.make_room.ensures.same)

pub returns-in-Unread-clause-goes : goal.returns-in-Unread-clause-goes
returns-in-Unread-clause-goes g c =
    let mid = c.make_room.new.self in
    let link = g.L.Link.told c.make_room.new.link in
    let before : failing mid.stage ≡ None = (plain_quiet mid.stage
    (subst (λ (s : ConnState). IsPlain s.stage) (sym c.make_room.ensures.same) c.requires.plain)).1 in
    goes_on None c.args.self.now mid c.judge.new.self
    (g.L.Link.told c.args.link.now) link link c.in_default.ensures.goes
    (goes_still mid c.judge.new.self link (ap (λ (s : ConnState). s.bytes) c.judge.ensures.same
    ∙ ap (λ (s : ConnState). s.bytes) c.look.ensures.same)
    (ap (λ (s : ConnState). s.waits) c.judge.ensures.same
    ∙ ap (λ (s : ConnState). s.waits) c.look.ensures.same)
    ((plain_quiet c.judge.new.self.stage c.judge.ensures.plain.0).1 ∙ sym before))

-- ---- more is wanted

pub read_more-requires-clause-some : goal.read_more-requires-clause-some
read_more-requires-clause-some g c =
    subst (λ (s : ConnState). 0 < s.left) (sym c.look.ensures.same)
    (subst (λ (s : ConnState). 0 < s.left) (sym c.make_room.ensures.same) c.requires.some)

pub returns-in-Unfinished-clause-stands : goal.returns-in-Unfinished-clause-stands
returns-in-Unfinished-clause-stands g c = λ x.
    let serving = serving_over (g.A.App.moves c.args.app.now) g.F.Files.folder in
    c.read_more.ensures.stands serving
    (c.look.ensures.stands serving (g.L.Link.told c.make_room.new.link)
    (c.in_default.ensures.stands serving x))

pub returns-in-Unfinished-clause-proceeds : goal.returns-in-Unfinished-clause-proceeds
returns-in-Unfinished-clause-proceeds g c = record {
  over =
      ap (λ (s : ConnState). s.over) c.read_more.ensures.same
      ∙ ap (λ (s : ConnState). s.over) c.look.ensures.same
      ∙ ap (λ (s : ConnState). s.over) c.make_room.ensures.same;
  lent =
      ap (λ (s : ConnState). held_lease s) c.read_more.ensures.same
      ∙ ap (λ (s : ConnState). held_lease s) c.look.ensures.same
      ∙ ap (λ (s : ConnState). held_lease s) c.make_room.ensures.same;
  asks = c.read_more.ensures.plain.1 (g.A.App.moves c.args.app.now);
  file = (
    c.read_more.ensures.goes.file,
    (λ asking. absurd ((plain_quiet c.read_more.new.self.stage c.read_more.ensures.plain.0).0 asking)),
  );
}

pub returns-in-Unfinished-clause-nearer : goal.returns-in-Unfinished-clause-nearer
returns-in-Unfinished-clause-nearer g c =
    let same : to_go c.make_room.new.self ≡ to_go c.args.self.now =
    to_go_same c.args.self.now c.make_room.new.self c.make_room.ensures.same in (
      omega (arith, c.read_more.ensures.nearer.0, c.look.ensures.nearer, same),
      nearer_from c.read_more.result (to_go c.read_more.new.self) (to_go c.look.new.self)
          (to_go c.args.self.now) c.read_more.ensures.nearer.1 (omega (arith, c.look.ensures.nearer, same)),
    )

pub returns-in-Unfinished-clause-clocked : goal.returns-in-Unfinished-clause-clocked
returns-in-Unfinished-clause-clocked g c =
    clocked_none c.args.self.now c.read_more.new.self _
    (ap (λ (s : ConnState). s.moments) c.read_more.ensures.same
    ∙ ap (λ (s : ConnState). s.moments) c.look.ensures.same
    ∙ ap (λ (s : ConnState). s.moments) c.make_room.ensures.same)

pub returns-in-Unfinished-clause-goes : goal.returns-in-Unfinished-clause-goes
returns-in-Unfinished-clause-goes g c =
    let mid = c.make_room.new.self in
    let there = c.look.new.self in
    let before = g.L.Link.told c.args.link.now in
    let link = g.L.Link.told c.make_room.new.link in
    let was : failing mid.stage ≡ None = (plain_quiet mid.stage
    (subst (λ (s : ConnState). IsPlain s.stage) (sym c.make_room.ensures.same) c.requires.plain)).1 in
    let now : failing there.stage ≡ None =
    (plain_quiet there.stage (wanting_plain there.stage there.input c.in-Unfinished.ensures.is)).1 in
    goes_on c.read_more.result c.args.self.now there c.read_more.new.self before link
    (g.L.Link.told c.read_more.new.link)
    (goes_on None c.args.self.now mid there before link link c.in_default.ensures.goes
    (goes_still mid there link (ap (λ (s : ConnState). s.bytes) c.look.ensures.same)
    (ap (λ (s : ConnState). s.waits) c.look.ensures.same) (now ∙ sym was)))
    c.read_more.ensures.goes

-- ---- what came is refused

pub refuse-requires-clause-room : goal.refuse-requires-clause-room
refuse-requires-clause-room g c =
    omega (arith, c.in_default.ensures.room, ap (λ (s : ConnState). length s.pending) c.look.ensures.same)

pub refuse-requires-clause-some : goal.refuse-requires-clause-some
refuse-requires-clause-some g c =
    subst (λ (s : ConnState). 0 < s.left) (sym c.look.ensures.same)
    (subst (λ (s : ConnState). 0 < s.left) (sym c.make_room.ensures.same) c.requires.some)

pub returns-in-Refused-clause-stands : goal.returns-in-Refused-clause-stands
returns-in-Refused-clause-stands g c = λ x.
    let serving = serving_over (g.A.App.moves c.args.app.now) g.F.Files.folder in
    let link = g.L.Link.told c.make_room.new.link in
    let refuses = c.refuse.ensures in
    refuse_for serving c.look.new.self c.refuse.new.self link refuses.0 c.in-Refused.code
    (subst (λ (s : ConnState). 0 < s.left) (sym c.look.ensures.same)
    (subst (λ (s : ConnState). 0 < s.left) (sym c.make_room.ensures.same) c.requires.some))
    c.in-Refused.ensures.is.0 refuses.1
    (c.look.ensures.stands serving link (c.in_default.ensures.stands serving x))

pub returns-in-Refused-clause-proceeds : goal.returns-in-Refused-clause-proceeds
returns-in-Refused-clause-proceeds g c =
    let stage : c.refuse.new.self.stage ≡ refusing c.in-Refused.code =
    ap (λ (s : ConnState). s.stage) c.refuse.ensures.1 ∙ c.in-Refused.ensures.is.0 in
    proceeds_quiet (g.A.App.moves c.args.app.now) c.args.self.now c.refuse.new.self
    (ap (λ (s : ConnState). s.over) c.refuse.ensures.1 ∙ ap (λ (s : ConnState). s.over) c.look.ensures.same
    ∙ ap (λ (s : ConnState). s.over) c.make_room.ensures.same)
    (ap (λ (s : ConnState). held_lease s) c.refuse.ensures.1
    ∙ ap (λ (s : ConnState). held_lease s) c.look.ensures.same
    ∙ ap (λ (s : ConnState). held_lease s) c.make_room.ensures.same)
    (subst (λ (st : Stage). AsksFor (g.A.App.moves c.args.app.now) st) (sym stage) tt)
    (λ asks. subst (λ (st : Stage). IsAskingStage st) stage asks)

pub returns-in-Refused-clause-nearer : goal.returns-in-Refused-clause-nearer
returns-in-Refused-clause-nearer g c =
    let stage : c.look.new.self.stage ≡ refusing c.in-Refused.code = c.in-Refused.ensures.is.0 in
    let none : to_go c.refuse.new.self ≡ steps_left c.look.new.self.stage c.look.new.self.input =
    ap (λ (s : ConnState). to_go s) c.refuse.ensures.1 ∙ omega arith in
    let zero_left : steps_left c.look.new.self.stage c.look.new.self.input ≡ 0 =
    ap (λ (st : Stage). steps_left st c.look.new.self.input) stage in
    let fewer : to_go c.refuse.new.self < to_go c.args.self.now =
    omega (arith, none, zero_left, c.requires.some) in
    (omega (arith, fewer), fewer)

pub returns-in-Refused-clause-clocked : goal.returns-in-Refused-clause-clocked
returns-in-Refused-clause-clocked g c =
    clocked_one c.args.self.now c.refuse.new.self c.refuse.ensures.0 _ _
    (ap (λ (s : ConnState). s.moments) c.refuse.ensures.1
    ∙ ap (λ (v : List ℕ). v ++ c.refuse.ensures.0 ∷ []) (ap (λ (s : ConnState). s.moments) c.look.ensures.same
    ∙ ap (λ (s : ConnState). s.moments) c.make_room.ensures.same))
    c.refuse.ensures.2

pub returns-in-Refused-clause-goes : goal.returns-in-Refused-clause-goes
returns-in-Refused-clause-goes g c =
    let mid = c.make_room.new.self in
    let link = g.L.Link.told c.make_room.new.link in
    let was : failing mid.stage ≡ None = (plain_quiet mid.stage
    (subst (λ (s : ConnState). IsPlain s.stage) (sym c.make_room.ensures.same) c.requires.plain)).1 in
    let stage : c.refuse.new.self.stage ≡ refusing c.in-Refused.code =
    ap (λ (s : ConnState). s.stage) c.refuse.ensures.1 ∙ c.in-Refused.ensures.is.0 in
    goes_on None c.args.self.now mid c.refuse.new.self
    (g.L.Link.told c.args.link.now) link link c.in_default.ensures.goes
    (goes_still mid c.refuse.new.self link
    (ap (λ (s : ConnState). s.bytes) c.refuse.ensures.1 ∙ ap (λ (s : ConnState). s.bytes) c.look.ensures.same)
    (ap (λ (s : ConnState). s.waits) c.refuse.ensures.1 ∙ ap (λ (s : ConnState). s.waits) c.look.ensures.same)
    (ap (λ (st : Stage). failing st) stage ∙ sym was))

-- ---- a whole request is answered

pub respond-requires-clause-some : goal.respond-requires-clause-some
respond-requires-clause-some g c =
    subst (λ (s : ConnState). 0 < s.left) (sym c.look.ensures.same)
    (subst (λ (s : ConnState). 0 < s.left) (sym c.make_room.ensures.same) c.requires.some)

pub respond-requires-clause-asks : goal.respond-requires-clause-asks
respond-requires-clause-asks g c =
    c.look.ensures.asks (g.A.App.moves c.args.app.now)
    (subst (λ (s : ConnState). AsksFor (g.A.App.moves c.args.app.now) s.stage)
    (sym c.make_room.ensures.same) c.requires.asks)

pub returns-in-Whole-clause-stands : goal.returns-in-Whole-clause-stands
returns-in-Whole-clause-stands g c = λ x.
    let serving = serving_over (g.A.App.moves c.args.app.now) g.F.Files.folder in
    c.respond.ensures.stands (c.look.ensures.stands serving (g.L.Link.told c.make_room.new.link)
    (c.in_default.ensures.stands serving x))

pub returns-in-Whole-clause-proceeds : goal.returns-in-Whole-clause-proceeds
returns-in-Whole-clause-proceeds g c =
    proceeds_then (g.A.App.moves c.args.app.now) c.respond.result c.args.self.now
    c.look.new.self c.respond.new.self
    (ap (λ (s : ConnState). s.over) c.look.ensures.same
    ∙ ap (λ (s : ConnState). s.over) c.make_room.ensures.same)
    (ap (λ (s : ConnState). held_lease s) c.look.ensures.same
    ∙ ap (λ (s : ConnState). held_lease s) c.make_room.ensures.same) c.respond.ensures.proceeds

pub returns-in-Whole-clause-nearer : goal.returns-in-Whole-clause-nearer
returns-in-Whole-clause-nearer g c =
    let same : to_go c.make_room.new.self ≡ to_go c.args.self.now =
    to_go_same c.args.self.now c.make_room.new.self c.make_room.ensures.same in (
      omega (arith, c.respond.ensures.nearer.0, c.look.ensures.nearer, same),
      nearer_from c.respond.result (to_go c.respond.new.self) (to_go c.look.new.self)
          (to_go c.args.self.now) c.respond.ensures.nearer.1 (omega (arith, c.look.ensures.nearer, same)),
    )

pub returns-in-Whole-clause-clocked : goal.returns-in-Whole-clause-clocked
returns-in-Whole-clause-clocked g c =
    clocked_same c.args.self.now c.look.new.self c.respond.new.self _ _
    (ap (λ (s : ConnState). s.moments) c.look.ensures.same
    ∙ ap (λ (s : ConnState). s.moments) c.make_room.ensures.same) c.respond.ensures.clocked

pub returns-in-Whole-clause-goes : goal.returns-in-Whole-clause-goes
returns-in-Whole-clause-goes g c =
    let mid = c.make_room.new.self in
    let there = c.look.new.self in
    let before = g.L.Link.told c.args.link.now in
    let link = g.L.Link.told c.make_room.new.link in
    let was : failing mid.stage ≡ None = (plain_quiet mid.stage
    (subst (λ (s : ConnState). IsPlain s.stage) (sym c.make_room.ensures.same) c.requires.plain)).1 in
    let now : failing there.stage ≡ None =
    (plain_quiet there.stage (ready_plain there.stage c.in-Whole.ensures.is)).1 in
    goes_on c.respond.result c.args.self.now there c.respond.new.self before link
    (g.L.Link.told c.respond.new.link)
    (goes_on None c.args.self.now mid there before link link c.in_default.ensures.goes
    (goes_still mid there link (ap (λ (s : ConnState). s.bytes) c.look.ensures.same)
    (ap (λ (s : ConnState). s.waits) c.look.ensures.same) (now ∙ sym was)))
    c.respond.ensures.goes
