use Rattle.std.proofs.Common.{◌≡◌, ◌≤◌, ◌+◌, length, ◌++◌, map}
use Rattle.stripe_table.specs.Ascending.{Ascends}
use Rattle.stripe_table.specs.Flags.{key_of}
use Rattle.stripe_table.specs.Firing.{shut_as, settle_all, shut_state}
use Rattle.stripe_table.proofs.firing.shut_all.Given as goal

abbrev pub invariant-loop-registration : goal.invariant-loop-registration
invariant-loop-registration g l = record {
  few : length l.list + length l.waits ≤ 4;
  list : l.list ++ map shut_as l.waits ≡ map shut_as l.fn.waits;
  ascends : Ascends key_of l.initial.flags → Ascends key_of l.flags;
  flags : Ascends key_of l.initial.flags
      → settle_all shut_state l.waits l.flags ≡ settle_all shut_state l.fn.waits l.initial.flags;
}

abbrev pub decreases-loop-registration : goal.decreases-loop-registration
decreases-loop-registration g l = length l.waits
