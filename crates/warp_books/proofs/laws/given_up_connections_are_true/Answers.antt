use Rattle.warp_books.proofs.Truths.{given_up_is_true}
use Rattle.warp_books.proofs.laws.given_up_connections_are_true.Goals as goal

pub returns : goal.returns
returns c o folder x end link r n g =
    given_up_is_true o folder x end link (c.sent_is_a_prefix.ensures _ folder x link r) n g
