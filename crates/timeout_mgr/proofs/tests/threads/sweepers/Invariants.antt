use Rattle.std.specs.Prelude.{All}
use Rattle.timeout_mgr.specs.Calls.{IsOf}
use Rattle.timeout_mgr.proofs.tests.threads.sweepers.Given as goal

abbrev pub invariant-loop : goal.invariant-loop
invariant-loop l =
    record { own : IsOf l.times l.pass; others : All (λ s. IsOf l.times s.pass) l.sweepers.items }
