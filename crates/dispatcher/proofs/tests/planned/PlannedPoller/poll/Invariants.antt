use Rattle.std.proofs.Common.{◌≡◌, vec_len}
use Rattle.dispatcher.proofs.tests.planned.PlannedPoller.poll.Given as goal

abbrev pub invariant-loop-opening : goal.invariant-loop-opening
invariant-loop-opening g l = l.self.faults ≡ l.initial.self.faults

abbrev pub decreases-loop-opening : goal.decreases-loop-opening
decreases-loop-opening g l = vec_len l.self.plan
