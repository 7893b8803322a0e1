use Rattle.std.specs.Prelude.{All}
use Rattle.piece_net.specs.AcceptEvents.{GivesUntouched}
use Rattle.serve_tests.proofs.tests.push_fails.Given as goal

abbrev pub invariant-loop-failed : goal.invariant-loop-failed
invariant-loop-failed l = All GivesUntouched l.events.items
