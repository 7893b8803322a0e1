-- To be believed: what contracts know of a poller, and what each poll owes.
use Rattle.std.specs.Prelude.{Bool, List, Option}
use Rattle.poller.specs.declared.poller.PollOut.{PollOut}
use Rattle.poller.specs.Faults.{PollerFaults, PollsLeave}
use Rattle.poller.specs.Polls.{Report}

-- what a poller's contracts speak of
pub record PollerMeaning (P : Type 0) : Type 1 where
  -- how many faults there were: of adding links, and of polls and of adding listeners
  pub faults : P → PollerFaults
  -- the reports that its polls gave, in order, where they are told
  pub polled : P → Option (List Report)
  -- a poll: the poller before it, whether it might wait, its answer, what it put into the
  -- reports, and the poller after it
  pub polls : P → Bool → PollOut → List Report → P → Type 0

-- a poll leaves the faults of adding links, and those of polls never fall
abbrev pub PollsAlone : {P : Type 0} → PollerMeaning P → Type 0
PollsAlone {P} m =
    (old : P) (idle : Bool) (result : PollOut) (out : List Report) (new : P) → m.polls old idle result out new
    → PollsLeave (m.faults old) (m.faults new)
