use Rattle.std.proofs.Common.{[]}
use Rattle.ready_queue.proofs.Moves.{in_order}
use Rattle.ready_queue.proofs.laws.histories_are_first_in_first_out.Goals as goal

pub returns : goal.returns
returns c capacity log legal = in_order capacity [] log legal
