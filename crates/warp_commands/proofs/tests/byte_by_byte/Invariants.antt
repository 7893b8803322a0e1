use Rattle.outside.specs.ReadScript.{EachFilled}
use Rattle.warp_commands.proofs.tests.byte_by_byte.Given as goal

-- each piece so far has its byte
abbrev pub invariant-loop-byte : goal.invariant-loop-byte
invariant-loop-byte l = EachFilled l.reads.items
