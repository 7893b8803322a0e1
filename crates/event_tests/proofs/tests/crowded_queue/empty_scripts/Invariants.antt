use Rattle.std.specs.Prelude.{◌≤◌, ◌<◌, ◌^◌, length, All}
use Rattle.poller.specs.declared.script.Script.{Script}
use Rattle.event_tests.proofs.tests.crowded_queue.empty_scripts.Given as goal

abbrev pub invariant-loop-made : goal.invariant-loop-made
invariant-loop-made l = record {
  few : length l.scripts.items ≤ l._made;
  short : All (λ (s : Script). length s.steps.items < 2 ^ 32) l.scripts.items;
}
