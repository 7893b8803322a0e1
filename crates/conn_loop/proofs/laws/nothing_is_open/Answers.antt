use Rattle.conn_loop.proofs.AnswerLemmas.{open_nothing}
use Rattle.conn_loop.proofs.laws.nothing_is_open.Goals as goal

pub returns : goal.returns
returns c = open_nothing
