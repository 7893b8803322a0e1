use Rattle.std.proofs.Common.{◌≡◌, take, false}
use Rattle.std.specs.List.{list_any}
use Rattle.stripe_table.specs.Descriptors.{goes}
use Rattle.stripe_table.proofs.descriptor.OpenDescriptor.waits_for.Given as goal

abbrev pub invariant-loop-place : goal.invariant-loop-place
invariant-loop-place g l = list_any (goes l.fn.dir) (take l.place l.self.waits) ≡ false
