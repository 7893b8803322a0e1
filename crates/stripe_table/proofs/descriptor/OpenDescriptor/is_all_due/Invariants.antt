use Rattle.std.proofs.Common.{◌≡◌, take, false}
use Rattle.std.specs.Prelude.{not}
use Rattle.std.specs.List.{list_any}
use Rattle.stripe_table.specs.Descriptors.{is_for}
use Rattle.stripe_table.proofs.descriptor.OpenDescriptor.is_all_due.Given as goal

abbrev pub invariant-loop-place : goal.invariant-loop-place
invariant-loop-place g l = list_any (λ r. not (is_for l.fn.event r)) (take l.place l.self.waits) ≡ false
