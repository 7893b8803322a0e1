use Rattle.std.proofs.Common.{◌≡◌, ◌≤◌, ◌+◌, length, ◌++◌, map}
use Rattle.stripe_table.specs.Ascending.{Ascends}
use Rattle.stripe_table.specs.Flags.{key_of}
use Rattle.stripe_table.specs.Firing.{fired_as, settle_all, run_state}
use Rattle.stripe_table.proofs.firing.run_all.Given as goal

abbrev pub invariant-loop-registration : goal.invariant-loop-registration
invariant-loop-registration g l = record {
  few : length l.list + length l.taken ≤ 4;
  list : l.list ++ map (fired_as l.marks) l.taken ≡ map (fired_as l.marks) l.fn.taken;
  ascends : Ascends key_of l.initial.flags → Ascends key_of l.flags;
  flags : Ascends key_of l.initial.flags → settle_all (run_state l.marks) l.taken l.flags
      ≡ settle_all (run_state l.marks) l.fn.taken l.initial.flags;
}

abbrev pub decreases-loop-registration : goal.decreases-loop-registration
decreases-loop-registration g l = length l.taken
