use Rattle.std.proofs.Common.{refl}
use Rattle.warp_core.proofs.making.row_of.Goals as goal

pub returns-clause-pass : goal.returns-clause-pass
returns-clause-pass g c = refl

pub returns-clause-book : goal.returns-clause-book
returns-clause-book g c = refl

pub returns-clause-plain : goal.returns-clause-plain
returns-clause-plain g c = record { shared = refl; limit_is = refl; goes_on = refl }

pub returns-clause-beats : goal.returns-clause-beats
returns-clause-beats g c = refl
