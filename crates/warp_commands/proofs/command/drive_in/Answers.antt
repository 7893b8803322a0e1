use Rattle.warp_commands.proofs.WordLemmas.{dispatchers_within}
use Rattle.warp_commands.proofs.command.drive_in.Goals as goal

pub returns-in-Some-Some-clause-within : goal.returns-in-Some-Some-clause-within
returns-in-Some-Some-clause-within c =
    dispatchers_within c.args.dispatchers.now c.in-Some-Some.dispatchers (cc)
