use Rattle.std.proofs.Common.{◌≡◌, ◌≤◌, ◌+◌, length, ◌++◌}
use Rattle.std.specs.Prelude.{filter, not}
use Rattle.stripe_table.specs.Descriptors.{is_for}
use Rattle.stripe_table.proofs.descriptor.OpenDescriptor.take_due.Given as goal

abbrev pub invariant-loop-registration : goal.invariant-loop-registration
invariant-loop-registration g l = record {
  few : length l.taken + length l.self.waits + length l.waits ≤ 4;
  taken : l.taken ++ filter (is_for l.event) l.waits ≡ filter (is_for l.event) l.fn.self.waits;
  left : l.self.waits ++ filter (λ r. not (is_for l.event r)) l.waits
      ≡ filter (λ r. not (is_for l.event r)) l.fn.self.waits;
  same : l.self ≡ record l.fn.self { waits = l.self.waits };
}

abbrev pub decreases-loop-registration : goal.decreases-loop-registration
decreases-loop-registration g l = length l.waits
