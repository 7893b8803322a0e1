use Rattle.std.proofs.Common.{◌≡◌, take, reverse}
use Rattle.event_mgr.specs.Numbers.{is_among, numbers_out}
use Rattle.event_mgr.proofs.tests.plain_numbers.is_out.Given as goal

abbrev pub invariant-loop-entry : goal.invariant-loop-entry
invariant-loop-entry l = l.out ≡ is_among (numbers_out (reverse (take l.entry-index l.history))) l.number
