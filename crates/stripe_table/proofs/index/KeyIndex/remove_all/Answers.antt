use Rattle.stripe_table.proofs.index.KeyIndex.remove_all.Goals as goal

pub loop-i-preserved : goal.loop-i-preserved
loop-i-preserved g c k p low ne m = c.remove.ensures k p low ne (c.loop-i.invariant k p low ne m)

pub returns : goal.returns
returns g c = c.loop-i.invariant
