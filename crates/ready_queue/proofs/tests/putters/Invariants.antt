use Rattle.std.specs.Prelude.{All}
use Rattle.ready_queue.specs.Calls.{IsOf}
use Rattle.ready_queue.proofs.tests.putters.Given as goal

abbrev pub invariant-loop-name : goal.invariant-loop-name
invariant-loop-name l =
    record { own : IsOf l.queue l.pass; others : All (λ p. IsOf l.queue p.pass) l.putters.items }
