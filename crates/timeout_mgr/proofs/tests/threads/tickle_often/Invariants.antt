use Rattle.timeout_mgr.specs.Calls.{IsOf}
use Rattle.timeout_mgr.proofs.tests.threads.tickle_often.Given as goal

abbrev pub invariant-loop : goal.invariant-loop
invariant-loop l = IsOf l.times l.tickler.pass
