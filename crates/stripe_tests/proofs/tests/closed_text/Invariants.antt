use Rattle.std.proofs.Common.{length}
use Rattle.stripe_tests.proofs.tests.closed_text.Given as goal

abbrev pub decreases-loop-key : goal.decreases-loop-key
decreases-loop-key l = length l.list
