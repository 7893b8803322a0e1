use Rattle.dispatcher.specs.Turns.{AreOf}
use Rattle.fd_wait.proofs.tests.a_wait_beside_four_waiting_jobs_is_crowded.Given as goal

abbrev pub invariant-loop : goal.invariant-loop
invariant-loop g l = AreOf l.shared.mgr l.shared.queue l.passes
