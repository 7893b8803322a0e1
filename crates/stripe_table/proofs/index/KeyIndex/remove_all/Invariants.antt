use Rattle.stripe_table.specs.Index.{KeepsOthers}
use Rattle.stripe_table.proofs.index.KeyIndex.remove_all.Given as goal

abbrev pub invariant-loop-i : goal.invariant-loop-i
invariant-loop-i g l = KeepsOthers l.place l.fn.self l.self
