use Rattle.std.proofs.Common.{[], arith}
use Rattle.ready_queue.proofs.Moves.{at_most}
use Rattle.ready_queue.proofs.laws.histories_hold_at_most_the_capacity.Goals as goal

pub returns : goal.returns
returns c capacity log legal = at_most capacity [] log (omega arith) legal
