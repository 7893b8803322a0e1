use Rattle.event_tests.specs.Rows.{ServesRow}
use Rattle.wait_tests.proofs.tests.waiting.turn_until.Given as goal

abbrev pub invariant-loop : goal.invariant-loop
invariant-loop g l = ServesRow l.mgr l.queue l.row.pass l.row.kit.book
