use Rattle.std.proofs.Common.{refl}
use Rattle.outside.specs.declared.files.FindOut.TheVariants as Finds
use Rattle.fd_cache.specs.declared.acquired.Acquired.TheVariants.{Absent, Failed, NoMemory}
use Rattle.fd_cache.specs.Shared.{HasEndedTicket}
use Rattle.fd_cache.proofs.Acquires.{ended_so}
use Rattle.fd_cache.proofs.shared.look.Goals as goal

pub returns-in-Found-clause-ended : goal.returns-in-Found-clause-ended
returns-in-Found-clause-ended g c =
    HasEndedTicket.left (Finds.Found c.in-Found.opened) refl c.in-Found.ensures.looked
    c.in-Spent.ensures.step.1

pub returns-in-Absent-clause-ended : goal.returns-in-Absent-clause-ended
returns-in-Absent-clause-ended g c =
    ended_so _ _ Absent _ _ _ _ _ Finds.Absent c.abandon.ensures.abandoned c.in-Absent.ensures.looked
    refl c.in-Absent.ensures.looked

pub returns-in-Failed-clause-ended : goal.returns-in-Failed-clause-ended
returns-in-Failed-clause-ended g c =
    ended_so _ _ Failed _ _ _ _ _ Finds.Failed c.abandon-in-Failed.ensures.abandoned
    c.in-Failed.ensures.looked refl c.in-Failed.ensures.looked

pub returns-clause-ended : goal.returns-clause-ended
returns-clause-ended g c =
    ended_so _ _ NoMemory _ _ _ _ _ Finds.NoMemory c.abandon-in-NoMemory.ensures.abandoned
    c.in-NoMemory.ensures.looked refl c.in-NoMemory.ensures.looked
