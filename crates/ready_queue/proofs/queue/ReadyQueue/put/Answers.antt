use Rattle.crossbeam_queue.specs.Passes.{view}
use Rattle.std.proofs.Common.{rules}
use Rattle.ready_queue.proofs.Keeps.{puts, learns}
use Rattle.ready_queue.proofs.Told.{has_moved, was_full}
use Rattle.ready_queue.proofs.queue.ReadyQueue.put.Goals as goal

pub push_as-requires-clause-rule : goal.push_as-requires-clause-rule
push_as-requires-clause-rule g c =
    let at = c.args.pass.now.rests in
    (puts _ _ _ _ at.0 c.requires.own.1, learns _ _ at.0)

pub returns-in-Ok-clause-put : goal.returns-in-Ok-clause-put
returns-in-Ok-clause-put g c =
    has_moved _ _ (view c.args.pass.now.seat) (view c.push_as.new.pass) (λ between are foreign.
    c.an_entry_is_the_passes_own.ensures _ _ between _ c.args.pass.now.rests.1 are foreign)
    c.requires.own.1 (search rules)

pub returns-in-Err-clause-put : goal.returns-in-Err-clause-put
returns-in-Err-clause-put g c = (
  search rules,
  was_full _ (view c.args.pass.now.seat) (view c.push_as.new.pass) (search rules) c.requires.own.1
      (search rules),
)
