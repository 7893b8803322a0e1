use Rattle.std.proofs.Common.{◌≡◌, ◌∙◌, ◌++◌, ap, sym, take, drop, List, ℕ}
use Rattle.warp_request.specs.Verdict.{asked}
use Rattle.conn_loop.specs.Heads.{asked_in}
use Rattle.conn_loop.specs.Stages.{reading}
use Rattle.conn_loop.specs.declared.phase.Phase.{Phase}
use Rattle.conn_loop.specs.Phases.{over_in, stage_in}
use Rattle.conn_loop.specs.ConnState.{ConnState}
use Rattle.conn_loop.proofs.JudgeStepLemmas.{read_for}
use Rattle.conn_loop.proofs.ViewLemmas.{restaged_is}
use Rattle.conn_loop.proofs.StageLemmas.{begun_asks, begun_plain}
use Rattle.conn_loop.proofs.conn.Conn.read_body.Goals as goal

pub invariant_of-self : goal.invariant_of-self
invariant_of-self g c =
    let kept = c.read_on-self-inside.ensures.kept c.self.inside.left _ in
    (c.self.invariant.0, c.self.invariant.1, kept.0, kept.1)

pub returns-clause-stands : goal.returns-clause-stands
returns-clause-stands g c = λ serving link x.
    let old = c.args.self.now in
    let inside = c.self.inside in
    let head = c.in-Reading-replace.head in
    let input : inside.input ≡ old.input = ap (λ (s : ConnState). s.input) c.self.view_is in
    let was = sym (ap (λ (s : ConnState). s.stage) c.self.view_is) ∙ ap (λ (p : Phase).
    stage_in inside.input inside.path p) (sym c.replace.ensures.value ∙ c.in-Reading-replace.is)
    ∙ ap (λ (v : List ℕ). reading (asked_in v head) c.in-Reading-replace.reader c.in-Reading-replace.room)
    input in
    read_for serving old _ link
    (asked_in old.input head) c.in-Reading-replace.reader c.in-Reading-replace.room was
    (restaged_is _ old c.read_on-self-inside.new.input _ _ c.self.view_is
    (c.read_on-self-inside.ensures.over
    ∙ sym (ap (λ (p : Phase). over_in p) (sym c.replace.ensures.value ∙ c.in-Reading-replace.is))))
    (c.read_on-self-inside.ensures.begun inside.path)
    (λ fed ahead stands parts asks.
    c.read_on-self-inside.ensures.lies fed ahead stands
    (parts ∙ ap (λ (v : List ℕ). take head.head_len v ++ (fed ++ drop head.head_len v)) (sym input))
    (λ u. asks u ∙ ap (λ (v : List ℕ). asked (asked_in v head)) (sym input)) inside.path) x

pub returns-clause-asks : goal.returns-clause-asks
returns-clause-asks g c =
    λ moves x. begun_asks moves _ (c.read_on-self-inside.ensures.begun c.self.inside.path)

pub returns-clause-plain : goal.returns-clause-plain
returns-clause-plain g c = begun_plain _ (c.read_on-self-inside.ensures.begun c.self.inside.path)
