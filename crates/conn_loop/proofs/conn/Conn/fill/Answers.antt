use Rattle.std.proofs.Common.{◌∙◌, ap, arith, length, length-append, List, ℕ}
use Rattle.conn_loop.specs.Phases.{stage_in}
use Rattle.conn_loop.specs.Stages.{Stage}
use Rattle.conn_loop.specs.Steps.{stage_after}
use Rattle.conn_loop.proofs.ReadStepLemmas.{taken_same}
use Rattle.conn_loop.proofs.ViewLemmas.{filled_is, stage_grown}
use Rattle.conn_loop.proofs.conn.Conn.fill.Goals as goal

pub invariant_of-self : goal.invariant_of-self
invariant_of-self g c =
    let inside = c.self.inside in
    let takes = c.fill-out.ensures in (
      c.self.invariant.0,
      c.self.invariant.1,
      c.read.ensures.kept inside.input c.fill-out.new.self inside.left
          (omega (arith, ap (λ (t : List ℕ). length t) takes.grown, length-append inside.input takes.piece))
          (λ none. taken_same c.fill-out.result inside.input c.fill-out.new.self _ _ takes none)
          c.self.invariant.2,
      c.read.ensures.lease _ c.self.invariant.3,
    )

pub returns-clause-same : goal.returns-clause-same
returns-clause-same g c =
    let inside = c.self.inside in
    let takes = c.fill-out.ensures in
    filled_is c.fill-out.result _ c.args.self.now c.fill-out.new.self _ _ c.waits_behind-self-inside.result
    c.self.view_is c.read.ensures.over
    (c.read.ensures.stage c.fill-out.new.self inside.path
    ∙ ap (λ (st : Stage). stage_after c.fill-out.result st)
    (ap (λ (t : List ℕ). stage_in t inside.path inside.phase) takes.grown
    ∙ stage_grown inside.input takes.piece inside.path inside.left inside.phase c.self.invariant.2))
    c.waits_behind-self-inside.ensures
