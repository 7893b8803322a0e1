use Rattle.serve_tests.proofs.Scripts.{gives, more_events}
use Rattle.serve_tests.proofs.tests.push_links.Goals as goal

pub loop-given-preserved : goal.loop-given-preserved
loop-given-preserved c =
    more_events _ _ _ c.in_ok-push.ensures.items c.loop-given.invariant
    (gives c.in_ok-link.link c.in_ok-link.ensures)
