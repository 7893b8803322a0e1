use Rattle.timeout_mgr.specs.Calls.{IsOf}
use Rattle.timeout_mgr.proofs.tests.full.fill.Given as goal

abbrev pub invariant-loop-fd : goal.invariant-loop-fd
invariant-loop-fd l = IsOf l.times l.pass
