use Rattle.std.proofs.Common.{lit<}
use Rattle.std.proofs.lemmas.Str.Pattern.{split_once_first}
use Rattle.warp_commands.proofs.WordLemmas.{parted_at}
use Rattle.warp_commands.proofs.service.parted.Goals as goal

pub returns : goal.returns
returns c =
    parted_at c.args.word.now c.split_once.result
    (split_once_first 46 c.args.word.now c.split_once.result c.split_once.ensures.cases (lit< tt))
