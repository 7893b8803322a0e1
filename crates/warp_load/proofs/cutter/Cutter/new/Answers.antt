use Rattle.warp_load.proofs.CutterLemmas.{cut_none}
use Rattle.warp_load.proofs.cutter.Cutter.new.Goals as goal

pub returns-clause-cut : goal.returns-clause-cut
returns-clause-cut c =
    cut_none _ c.new.ensures.items c.new.ensures.len c.new-2.ensures.items c.new-2.ensures.len
