use Rattle.std.proofs.Common.{◌≡◌, List, []}
use Rattle.reg_keys.specs.declared.entry.Entry.{Entry}
use Rattle.stripe_table.specs.Represents.{ShowsPast}
use Rattle.stripe_tests.proofs.tests.run.Given as goal

abbrev pub invariant-loop-call : goal.invariant-loop-call
invariant-loop-call l = (l.stripe.stripe ≡ 0) × ((past : List Entry) × ShowsPast (λ _. []) past l.stripe)
