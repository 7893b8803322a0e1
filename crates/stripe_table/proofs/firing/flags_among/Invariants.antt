use Rattle.std.proofs.Common.{◌≡◌, ◌≤◌, take}
use Rattle.reg_keys.specs.Tests.{how_many}
use Rattle.stripe_table.specs.Descriptors.{flag_waits}
use Rattle.stripe_table.proofs.firing.flags_among.Given as goal

abbrev pub invariant-loop-place : goal.invariant-loop-place
invariant-loop-place g l = (l.count ≡ how_many flag_waits (take l.place l.taken)) × (l.count ≤ l.place)
