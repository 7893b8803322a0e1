use Rattle.crossbeam_queue.specs.Passes.{view}
use Rattle.std.proofs.Common.{ap, ◌∙◌, sym, subst}
use Rattle.turn_cell.specs.Classes.{AreClasses}
use Rattle.turn_cell.specs.View.{JoinFits}
use Rattle.turn_cell.specs.ClassLaws.{append_full}
use Rattle.ready_queue.proofs.Keeps.{merges, learns}
use Rattle.ready_queue.specs.Calls.{untold}
use Rattle.ready_queue.proofs.queue.ReadyQueue.join.Goals as goal

pub absorb-requires-clause-rule : goal.absorb-requires-clause-rule
absorb-requires-clause-rule c = merges _ _ _ _ c.args.pass.now.rests.0 c.args.other.rests.0

pub learn_as-requires-clause-rule : goal.learn_as-requires-clause-rule
learn_as-requires-clause-rule c =
    learns _ _ (ap (λ v. v.gone) c.absorb.ensures.rule ∙ c.args.pass.now.rests.0)

pub invariant_of-pass : goal.invariant_of-pass
invariant_of-pass c =
    let e = c.learn_as.ensures.queue.1 ∙ c.absorb.ensures.rule in
    let a = c.args.pass.now.rests in
    record { rests = (ap (λ v. v.gone) e ∙ a.0, λ z. append_full _ _ a.1 (sym (ap (λ v. v.classes) e) ∙ z)) }

pub returns-clause-joined : goal.returns-clause-joined
returns-clause-joined c =
    let e = c.absorb.ensures.rule in
    let told = c.learn_as.ensures.rule.1 in
    c.joined_views_are_a_join.ensures (untold (view c.args.pass.now.seat)) (untold (view c.args.other.seat)) _
    (subst (λ v. AreClasses v.classes) e told.are) (subst (λ v. JoinFits v.told) e told.fits)
    (ap untold (c.learn_as.ensures.queue.1 ∙ e))
