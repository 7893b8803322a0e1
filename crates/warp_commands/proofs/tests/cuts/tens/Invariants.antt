use Rattle.outside.specs.ReadScript.{EachFilled}
use Rattle.warp_commands.proofs.tests.cuts.tens.Given as goal

-- each piece so far has a byte
abbrev pub invariant-pieces : goal.invariant-pieces
invariant-pieces l = EachFilled l.reads.items
