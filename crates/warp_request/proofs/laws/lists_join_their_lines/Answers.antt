use Rattle.warp_request.proofs.ListLemmas.{members_join}
use Rattle.warp_request.proofs.laws.lists_join_their_lines.Goals as goal

pub returns : goal.returns
returns c = members_join
