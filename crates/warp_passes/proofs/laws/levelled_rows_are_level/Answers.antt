use Rattle.warp_passes.proofs.LevelSums.{rows_level}
use Rattle.warp_passes.proofs.SameOwn.{kept_own}
use Rattle.warp_passes.proofs.laws.levelled_rows_are_level.Goals as goal

pub returns-clause-level : goal.returns-clause-level
returns-clause-level g c = λ known xs ys b. rows_level known xs ys b

pub returns-clause-own : goal.returns-clause-own
returns-clause-own g c = λ known xs ys l m keeps. kept_own known xs ys l m keeps
