use Rattle.std.specs.Prelude.{◌≤◌}
use Rattle.ready_queue.specs.Calls.{IsOf}
use Rattle.ready_queue.proofs.tests.put_all.Given as goal

abbrev pub invariant-loop : goal.invariant-loop
invariant-loop g l = record { own : IsOf l.queue l.putter.pass; most : l.next ≤ 100 }
