use Rattle.dispatcher.specs.Turns.{AreOf}
use Rattle.fd_wait.proofs.tests.turns.Given as goal

abbrev pub invariant-loop : goal.invariant-loop
invariant-loop g l = AreOf l.shared.mgr l.shared.queue l.passes
