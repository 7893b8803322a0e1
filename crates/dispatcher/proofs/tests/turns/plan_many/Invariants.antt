use Rattle.std.proofs.Common.{◌≡◌, None}
use Rattle.dispatcher.specs.Turns.{AreOf}
use Rattle.dispatcher.proofs.tests.turns.plan_many.Given as goal

abbrev pub invariant-loop : goal.invariant-loop
invariant-loop g l = AreOf l.bench.mgr l.bench.queue l.bench.passes × (l.keeper.stopped ≡ None)
