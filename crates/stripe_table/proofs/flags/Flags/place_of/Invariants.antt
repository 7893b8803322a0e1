use Rattle.std.proofs.Common.{◌≡◌, ◌≤◌, ◌<◌, ◌-◌, ℕ, length}
use Rattle.std.specs.Prelude.{Some, slice_get}
use Rattle.stripe_table.specs.Ascending.{Ascends}
use Rattle.stripe_table.specs.Flags.{key_of}
use Rattle.stripe_table.specs.declared.flags.UnaskedFlag.{UnaskedFlag}
use Rattle.stripe_table.proofs.flags.Flags.place_of.Given as goal

abbrev pub invariant-loop-low : goal.invariant-loop-low
invariant-loop-low l = record {
  within : l.high ≤ length l.items;
  low : Ascends key_of l.items → (i : ℕ) (f : UnaskedFlag) → slice_get l.items i ≡ Some f
      → i < l.low → f.key < l.fn.key;
  high : Ascends key_of l.items → (i : ℕ) (f : UnaskedFlag) → slice_get l.items i ≡ Some f
      → l.high ≤ i → l.fn.key < f.key;
}

abbrev pub decreases-loop-low : goal.decreases-loop-low
decreases-loop-low l = l.high - l.low
