use Rattle.ready_queue.specs.Calls.{IsOf}
use Rattle.ready_queue.proofs.tests.take_all.Given as goal

abbrev pub invariant-loop : goal.invariant-loop
invariant-loop g l = IsOf l.queue l.taker.pass
