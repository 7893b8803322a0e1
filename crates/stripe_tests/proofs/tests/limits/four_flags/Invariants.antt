use Rattle.std.proofs.Common.{◌≡◌, List, []}
use Rattle.reg_keys.specs.declared.entry.Entry.{Entry}
use Rattle.stripe_table.specs.Represents.{ShowsPast}
use Rattle.stripe_tests.proofs.tests.limits.four_flags.Given as goal

abbrev pub invariant-loop-flag : goal.invariant-loop-flag
invariant-loop-flag l = (l.stripe.stripe ≡ 0) × ((past : List Entry) × ShowsPast (λ _. []) past l.stripe)
