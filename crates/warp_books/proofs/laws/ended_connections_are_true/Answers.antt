use Rattle.warp_books.proofs.Truths.{ended_is_true}
use Rattle.warp_books.proofs.laws.ended_connections_are_true.Goals as goal

pub returns : goal.returns
returns c o folder x end was before link files since r s h n =
    ended_is_true o folder x end was before link files since
    (c.sent_is_a_prefix.ensures _ folder x link r) s h n
