use Rattle.std.proofs.Common.{sym, subst}
use Rattle.crossbeam_queue.specs.Fifo.{Forks}
use Rattle.turn_cell.specs.View.{gone_view}
use Rattle.ready_queue.specs.Rule.{Kept, newcomer, made_for}
use Rattle.ready_queue.proofs.Keeps.{begins}
use Rattle.ready_queue.proofs.queue.begin.Goals as goal

pub another-none-requires-clause-rule : goal.another-none-requires-clause-rule
another-none-requires-clause-rule g c = let k = c.requires.capacity in
    subst (λ v. Forks Kept c.args.seat.now.id v (made_for g.C.Capacity.capacity v) gone_view)
    (sym c.requires.new)
    (subst (λ o. Forks Kept c.args.seat.now.id newcomer (made_for o newcomer) gone_view)
    (sym k.1) (begins c.args.seat.now.id k.0))
