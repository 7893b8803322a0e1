use Rattle.std.proofs.Common.{◌≡◌, List, []}
use Rattle.reg_keys.specs.declared.entry.Entry.{Entry}
use Rattle.stripe_table.specs.Represents.{ShowsPast}
use Rattle.stripe_tests.proofs.tests.limits.a_stripe_has_room_for_512_flags.Given as goal

abbrev pub invariant-loop-round : goal.invariant-loop-round
invariant-loop-round g l = (l.stripe.stripe ≡ 0) × ((past : List Entry) × ShowsPast (λ _. []) past l.stripe)
