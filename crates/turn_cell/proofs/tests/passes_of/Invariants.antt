use Rattle.std.specs.Prelude.{All}
use Rattle.turn_cell.specs.Calls.{IsOf}
use Rattle.turn_cell.proofs.tests.passes_of.Given as goal

abbrev pub invariant-loop : goal.invariant-loop
invariant-loop l = record { own : IsOf l.cell l.pass; others : All (λ p. IsOf l.cell p) l.passes.items }
