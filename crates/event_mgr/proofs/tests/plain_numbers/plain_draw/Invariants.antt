use Rattle.std.proofs.Common.{◌≡◌, ◌<◌, ℕ, true, reverse}
use Rattle.event_mgr.specs.Numbers.{is_among, numbers_out}
use Rattle.event_mgr.proofs.tests.plain_numbers.plain_draw.Given as goal

abbrev pub invariant-loop-number : goal.invariant-loop-number
invariant-loop-number l = (m : ℕ) → m < l.number → is_among (numbers_out (reverse l.history)) m ≡ true
