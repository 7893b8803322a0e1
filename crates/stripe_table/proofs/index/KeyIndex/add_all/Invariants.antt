use Rattle.std.proofs.Common.{◌≡◌, ℕ, take, true}
use Rattle.std.specs.List.{list_any}
use Rattle.stripe_table.specs.Descriptors.{waits_as}
use Rattle.stripe_table.specs.Index.{IsListed}
use Rattle.stripe_table.proofs.index.KeyIndex.add_all.Given as goal

abbrev pub invariant-loop-i : goal.invariant-loop-i
invariant-loop-i g l = record {
  here : (key : ℕ) → list_any (waits_as key) (take l.i l.waits) ≡ true → IsListed l.self key l.place;
  kept : (key other : ℕ) → IsListed l.fn.self key other → IsListed l.self key other;
}
