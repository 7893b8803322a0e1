-- To be believed: the counts by which a fault of a poller is known.
use Rattle.std.specs.Prelude.{◌≡◌, ℕ, ◌≤◌}
use Rattle.outside.specs.Counts.{Rises}
use Rattle.poller.specs.declared.poller.AddOut.{AddOut}
use Rattle.poller.specs.declared.poller.AddOut.TheVariants as Adds
use Rattle.poller.specs.declared.poller.PollOut.{PollOut}
use Rattle.poller.specs.declared.poller.PollOut.TheVariants as Polls

-- how many faults there were of adding links, and of polls and of adding listeners
pub record PollerFaults : Type 0 where
  pub links : ℕ
  pub polls : ℕ

-- adding a link that failed raised the count of such faults; this one never falls, and the other stays
pub record AddFaults (result : AddOut) (old new : PollerFaults) : Type 0 where
  pub later : old.links ≤ new.links
  pub failed : result ≡ Adds.Failed → Rises old.links new.links
  pub other : new.polls ≡ old.polls

-- adding a listener that failed raised the count of such faults; this one never falls, and the other stays
pub record ListenFaults (result : AddOut) (old new : PollerFaults) : Type 0 where
  pub later : old.polls ≤ new.polls
  pub failed : result ≡ Adds.Failed → Rises old.polls new.polls
  pub other : new.links ≡ old.links

-- a poll that failed raised the count of such faults; this one never falls, and the other stays
pub record PollFaults (result : PollOut) (old new : PollerFaults) : Type 0 where
  pub later : old.polls ≤ new.polls
  pub failed : result ≡ Polls.Failed → Rises old.polls new.polls
  pub other : new.links ≡ old.links

-- whatever a poll answers, it leaves the faults of adding links, and the others never fall
pub record PollsLeave (old new : PollerFaults) : Type 0 where
  pub links : new.links ≡ old.links
  pub later : old.polls ≤ new.polls
