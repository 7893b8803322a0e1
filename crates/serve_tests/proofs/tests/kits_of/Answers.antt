use Rattle.serve_tests.proofs.Scripts.{more_kits}
use Rattle.serve_tests.proofs.tests.kits_of.Goals as goal

pub loop-made-preserved : goal.loop-made-preserved
loop-made-preserved c =
    more_kits _ _ _ c.in_ok-push.ensures.items c.loop-made.invariant c.in_ok-kit.ensures.book
