use Rattle.conn_loop.proofs.CallLemmas.{prefix_for}
use Rattle.conn_loop.proofs.laws.sent_is_a_prefix.Goals as goal

pub returns : goal.returns
returns c = λ moves folder conn link x. prefix_for moves folder conn link x.stands
