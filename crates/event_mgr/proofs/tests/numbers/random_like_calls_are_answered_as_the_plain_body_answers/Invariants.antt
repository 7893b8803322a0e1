use Rattle.turn_cell.specs.Calls.{IsOf}
use Rattle.event_mgr.proofs.tests.numbers.random_like_calls_are_answered_as_the_plain_body_answers.Given as goal

abbrev pub invariant-loop : goal.invariant-loop
invariant-loop g l = IsOf l.cell l.pass
