use Rattle.std.proofs.Common.{◌≡◌, take, false}
use Rattle.std.specs.List.{list_any}
use Rattle.stripe_table.specs.Descriptors.{waits_as}
use Rattle.stripe_table.proofs.descriptor.OpenDescriptor.has_key.Given as goal

abbrev pub invariant-loop-place : goal.invariant-loop-place
invariant-loop-place g l = list_any (waits_as l.key) (take l.place l.self.waits) ≡ false
