use Rattle.serve_tests.proofs.Scripts.{fails, more_events}
use Rattle.serve_tests.proofs.tests.push_fails.Goals as goal

pub loop-failed-preserved : goal.loop-failed-preserved
loop-failed-preserved c = more_events _ _ _ c.in_ok-push.ensures.items c.loop-failed.invariant fails
