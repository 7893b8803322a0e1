use Rattle.event_tests.specs.Rows.{ServesRow}
use Rattle.event_tests.proofs.turns.serve_row.Given as goal

abbrev pub invariant-loop : goal.invariant-loop
invariant-loop g l = ServesRow l.mgr l.queue l.row.pass l.row.kit.book
