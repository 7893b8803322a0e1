use Rattle.std.proofs.Common.{◌≡◌, ◌≤◌, ◌+◌, length, ◌++◌}
use Rattle.std.specs.Prelude.{filter, not}
use Rattle.stripe_table.specs.Descriptors.{waits_as}
use Rattle.stripe_table.proofs.descriptor.OpenDescriptor.take_key.Given as goal

abbrev pub invariant-loop-registration : goal.invariant-loop-registration
invariant-loop-registration g l = record {
  few : length l.taken + length l.self.waits + length l.waits ≤ 4;
  taken : l.taken ++ filter (waits_as l.key) l.waits ≡ filter (waits_as l.key) l.fn.self.waits;
  left : l.self.waits ++ filter (λ r. not (waits_as l.key r)) l.waits
      ≡ filter (λ r. not (waits_as l.key r)) l.fn.self.waits;
  same : l.self ≡ record l.fn.self { waits = l.self.waits };
}

abbrev pub decreases-loop-registration : goal.decreases-loop-registration
decreases-loop-registration g l = length l.waits
