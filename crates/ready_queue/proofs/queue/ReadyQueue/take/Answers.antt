use Rattle.crossbeam_queue.specs.Passes.{view}
use Rattle.std.proofs.Common.{rules}
use Rattle.ready_queue.proofs.Keeps.{takes, learns}
use Rattle.ready_queue.proofs.Told.{has_moved, was_empty}
use Rattle.ready_queue.proofs.queue.ReadyQueue.take.Goals as goal

pub pop_as-requires-clause-rule : goal.pop_as-requires-clause-rule
pop_as-requires-clause-rule g c = let at = c.args.pass.now.rests in (takes _ _ at.0, learns _ _ at.0)

pub returns-in-Some-clause-take : goal.returns-in-Some-clause-take
returns-in-Some-clause-take g c =
    has_moved _ _ (view c.args.pass.now.seat) (view c.pop_as.new.pass) (λ between are foreign.
    c.an_entry_is_the_passes_own.ensures _ _ between _ c.args.pass.now.rests.1 are foreign)
    c.requires.own.1 (search rules)

pub returns-in-None-clause-take : goal.returns-in-None-clause-take
returns-in-None-clause-take g c =
    was_empty _ (view c.args.pass.now.seat) (view c.pop_as.new.pass) (search rules) c.requires.own.1
    (search rules)
