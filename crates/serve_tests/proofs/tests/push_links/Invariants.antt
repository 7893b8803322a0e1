use Rattle.std.specs.Prelude.{All}
use Rattle.piece_net.specs.AcceptEvents.{GivesUntouched}
use Rattle.serve_tests.proofs.tests.push_links.Given as goal

abbrev pub invariant-loop-given : goal.invariant-loop-given
invariant-loop-given l = All GivesUntouched l.events.items
