use Rattle.std.specs.Prelude.{All}
use Rattle.ready_queue.specs.Calls.{IsOf}
use Rattle.ready_queue.proofs.tests.takers.Given as goal

abbrev pub invariant-loop : goal.invariant-loop
invariant-loop l =
    record { own : IsOf l.queue l.pass; others : All (λ t. IsOf l.queue t.pass) l.takers.items }
