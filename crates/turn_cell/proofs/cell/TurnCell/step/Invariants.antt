use Rattle.std.proofs.Common.{◌≡◌, ◌≤◌}
use Rattle.turn_cell.specs.Calls.{IsOf, view_of, IsUnmoved}
use Rattle.turn_cell.proofs.cell.TurnCell.step.Given as goal

abbrev pub invariant-loop : goal.invariant-loop
invariant-loop g l = record {
  goes_on : (goal.iterator-loop g).can_next l.iterator' × (goal.iterator-loop g).is_finite l.iterator';
  own : IsOf l.self l.pass;
  unmoved : IsUnmoved (view_of l.fn.pass) (view_of l.pass);
  met_spent : (view_of l.pass).met_spent ≡ (view_of l.fn.pass).met_spent;
  tries : (view_of l.fn.pass).tries ≤ (view_of l.pass).tries;
  call : l.call ≡ l.fn.call;
}
