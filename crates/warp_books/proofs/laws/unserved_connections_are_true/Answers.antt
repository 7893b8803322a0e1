use Rattle.warp_books.proofs.Truths.{unserved_is_true}
use Rattle.warp_books.proofs.laws.unserved_connections_are_true.Goals as goal

pub returns : goal.returns
returns c = unserved_is_true
