use Rattle.level.proofs.Makes.{first_seats, more_seats, kept_seats}
use Rattle.level.proofs.laws.split_passes_hold_all_seats.Goals as goal

pub returns-clause-first : goal.returns-clause-first
returns-clause-first g c = λ p first. first_seats g.P.Share.meaning p first

pub returns-clause-more : goal.returns-clause-more
returns-clause-more g c =
    λ ps i p after other at cut once. more_seats g.P.Share.meaning ps i p after other at cut once

pub returns-clause-kept : goal.returns-clause-kept
returns-clause-kept g c = λ ps qs same once. kept_seats g.P.Share.meaning ps qs same once
