use Rattle.std.proofs.Common.{◌≡◌, ◌≤◌, ◌-◌, length, false}
use Rattle.std.specs.Prelude.{is_some}
use Rattle.std.specs.List.{list_any}
use Rattle.stripe_table.proofs.stripe.no_descriptors.Given as goal

abbrev pub invariant-loop-made : goal.invariant-loop-made
invariant-loop-made g l = record {
  long : length l.table.items ≡ l.made;
  most : l.made ≤ 128;
  shut : list_any is_some l.table.items ≡ false;
}

abbrev pub decreases-loop-made : goal.decreases-loop-made
decreases-loop-made g l = 128 - l.made
