use Rattle.std.specs.Prelude.{All}
use Rattle.event_tests.specs.Rows.{ServesRow}
use Rattle.event_tests.proofs.tests.serving.serve_all.Given as goal

abbrev pub invariant-loop : goal.invariant-loop
invariant-loop g l = All (λ row. ServesRow l.mgr l.queue row.pass row.kit.book) l.rows.items
