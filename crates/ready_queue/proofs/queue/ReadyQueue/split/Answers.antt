use Rattle.crossbeam_queue.specs.Passes.{view}
use Rattle.std.proofs.Common.{ap, ◌∙◌}
use Rattle.turn_cell.specs.View.{left_of, right_of}
use Rattle.ready_queue.proofs.Keeps.{halves, learns}
use Rattle.ready_queue.specs.Calls.{untold}
use Rattle.ready_queue.proofs.queue.ReadyQueue.split.Goals as goal

pub learn_as-requires-clause-rule : goal.learn_as-requires-clause-rule
learn_as-requires-clause-rule c = learns _ _ c.args.pass.now.rests.0

pub another-seat-requires-clause-rule : goal.another-seat-requires-clause-rule
another-seat-requires-clause-rule c =
    halves _ _ (ap (λ v. v.gone) c.learn_as.ensures.queue.1 ∙ c.args.pass.now.rests.0)

pub returns-clause-split : goal.returns-clause-split
returns-clause-split c =
    let same = c.learn_as.ensures.queue.1 in
    let told = c.learn_as.ensures.rule.1 in
    let made = c.another-seat.ensures.rule in
    c.halves_are_a_split.ensures (untold (view c.args.pass.now.seat)) _ _ told.are told.firsts
    (ap untold (made.0 ∙ ap left_of same)) (ap untold (made.1 ∙ ap right_of same))
