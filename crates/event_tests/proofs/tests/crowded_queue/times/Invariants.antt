use Rattle.std.specs.Prelude.{◌≤◌}
use Rattle.event_tests.proofs.tests.crowded_queue.times.Given as goal

abbrev pub invariant-loop-n : goal.invariant-loop-n
invariant-loop-n l = l.count ≤ l.n-index
