use Rattle.std.specs.Prelude.{◌≤◌, length}
use Rattle.event_tests.proofs.tests.serving.script.Given as goal

abbrev pub invariant-loop-made : goal.invariant-loop-made
invariant-loop-made l = length l.steps.items ≤ l._made
