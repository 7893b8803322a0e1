use Rattle.std.proofs.Common.{[]}
use Rattle.ready_queue.proofs.Moves.{legal_before}
use Rattle.ready_queue.proofs.laws.histories_begin_with_histories.Goals as goal

pub returns : goal.returns
returns c capacity seen more legal = legal_before capacity [] seen more legal
