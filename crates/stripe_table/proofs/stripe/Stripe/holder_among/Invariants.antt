use Rattle.std.proofs.Common.{◌≡◌, ◌%◌, ◌/◌, ℕ, true}
use Rattle.std.specs.Prelude.{Some, slice_get}
use Rattle.std.specs.List.{list_any}
use Rattle.std.specs.Int.{bit_at}
use Rattle.stripe_table.specs.Descriptors.{waits_as}
use Rattle.stripe_table.specs.Index.{IsIndexed}
use Rattle.stripe_table.specs.declared.descriptor.OpenDescriptor.{OpenDescriptor}
use Rattle.stripe_table.proofs.stripe.Stripe.holder_among.Given as goal

abbrev pub invariant-loop-listed : goal.invariant-loop-listed
invariant-loop-listed g l =
    IsIndexed l.self.index l.self.descriptors.items → (i : ℕ) (d : OpenDescriptor g.row.T.Denot)
    → i / 64 ≡ l.half → slice_get l.self.descriptors.items i ≡ Some (Some d)
    → list_any (waits_as l.key) d.waits ≡ true → bit_at l.listed (i % 64) ≡ 1

abbrev pub decreases-loop-listed : goal.decreases-loop-listed
decreases-loop-listed g l = l.listed
