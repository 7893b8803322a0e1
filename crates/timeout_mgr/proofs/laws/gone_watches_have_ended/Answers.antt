use Rattle.timeout_mgr.proofs.Promises.{gone_ended}
use Rattle.timeout_mgr.proofs.laws.gone_watches_have_ended.Goals as goal

pub returns-clause-tickled : goal.returns-clause-tickled
returns-clause-tickled c = λ x past l n. gone_ended x.slot x.number past l.1 l.0 n

pub returns-clause-cancelled : goal.returns-clause-cancelled
returns-clause-cancelled c = λ x past l n. gone_ended x.slot x.number past l.1 l.0 n
