use Rattle.timeout_mgr.specs.Calls.{IsOf}
use Rattle.timeout_mgr.proofs.tests.round.add_often.Given as goal

abbrev pub invariant-loop-turn : goal.invariant-loop-turn
invariant-loop-turn l = IsOf l.times l.pass
