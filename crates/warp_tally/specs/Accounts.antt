-- To be believed: what a history of calls on a tally adds up to, by weights of its entries, and
-- what is promised of these sums.
use Rattle.std.specs.Prelude.{◌≡◌, ℕ, ◌+◌, ◌≤◌, List, [], ◌∷◌, ◌++◌}
use Rattle.reg_keys.specs.declared.opening.Opening.{Opening}
use Rattle.reg_keys.specs.Tests.{same, one_if, total}
use Rattle.warp_tally.specs.declared.calls.TallyCall.{TallyCall}
use Rattle.warp_tally.specs.declared.calls.TallyCall.TheVariants.{Accept, TurnAway, Finish}
use Rattle.warp_tally.specs.declared.calls.Counted.{Counted}
use Rattle.warp_tally.specs.declared.calls.Counted.TheVariants.{Yes}
use Rattle.warp_tally.specs.declared.calls.TallyReply.{TallyReply}
use Rattle.warp_tally.specs.declared.calls.TallyEntry.{TallyEntry}

-- the opening that a call accepted, if it did and counted
abbrev pub accepted_by : TallyCall → Counted → List Opening
accepted_by (Accept o) Yes = o ∷ []
accepted_by call counted = []

-- the opening that a call finished, if it did and counted
abbrev pub finished_by : TallyCall → Counted → List Opening
finished_by (Finish o) Yes = o ∷ []
finished_by call counted = []

-- one where the call turned a link away, and else none
abbrev pub turned_by : TallyCall → ℕ
turned_by TurnAway = 1
turned_by call = 0

-- one for each time that the opening is in the list
abbrev pub times : Opening → List Opening → ℕ
times o os = total (λ p. one_if (same o p)) os

-- how often an entry accepted the opening
abbrev pub accepts : Opening → TallyEntry → ℕ
accepts o e = times o (accepted_by e.call e.reply.counted)

-- how often an entry finished the opening
abbrev pub finishes : Opening → TallyEntry → ℕ
finishes o e = times o (finished_by e.call e.reply.counted)

-- how many openings an entry accepted
abbrev pub accepts_any : TallyEntry → ℕ
accepts_any e = total (λ o. 1) (accepted_by e.call e.reply.counted)

-- how many openings an entry finished
abbrev pub finishes_any : TallyEntry → ℕ
finishes_any e = total (λ o. 1) (finished_by e.call e.reply.counted)

-- how many links an entry turned away
abbrev pub turns_away : TallyEntry → ℕ
turns_away e = turned_by e.call

-- the openings that some entries finished, in the order of the entries
abbrev pub finished_in : List TallyEntry → List Opening
finished_in [] = []
finished_in (e ∷ es) = finished_by e.call e.reply.counted ++ finished_in es

-- Each finish has an accept before it, and of what is accepted and not finished an
-- opening has no more than all together
pub record FollowsAccepts (past : List TallyEntry) : Type 0 where
  pub each : (o : Opening) → total (finishes o) past ≤ total (accepts o) past
  pub together : (o : Opening) → total (accepts o) past + total finishes_any past
      ≤ total accepts_any past + total (finishes o) past

-- a reply shows how much was accepted, turned away and finished up to its call
pub record ShowsCounts (past : List TallyEntry) (r : TallyReply) : Type 0 where
  pub accepted : r.accepted ≡ total accepts_any past + total turns_away past
  pub turned : r.turned ≡ total turns_away past
  pub finished : r.finished ≡ total finishes_any past
