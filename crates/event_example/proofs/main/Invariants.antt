use Rattle.dispatcher.specs.Turns.{AreOf}
use Rattle.event_example.proofs.main.Given as goal

abbrev pub invariant-loop-number : goal.invariant-loop-number
invariant-loop-number g l = AreOf l.example.mgr l.example.queue l.example.passes
