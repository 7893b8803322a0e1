use Rattle.std.proofs.Common.{length}
use Rattle.stripe_tests.proofs.tests.ran_text.Given as goal

abbrev pub decreases-loop-fired : goal.decreases-loop-fired
decreases-loop-fired l = length l.list
