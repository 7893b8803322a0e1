-- To be believed: what holds after a history of calls on a tally, and the reply that each call must have. The
-- definitions read the history as a past: the list of its entries, the latest first.
use Rattle.std.specs.Prelude.{◌≡◌, ℕ, ◌+◌, ◌&&◌, ◌||◌, not, Bool, true, false, List, [], ◌∷◌, map, reverse}
use Rattle.std.specs.Prelude.{Option, Some, None}
use Rattle.reg_keys.specs.declared.opening.Opening.{Opening}
use Rattle.reg_keys.specs.Tests.{same}
use Rattle.warp_tally.specs.declared.calls.TallyCall.{TallyCall}
use Rattle.warp_tally.specs.declared.calls.TallyCall.TheVariants.{Accept, TurnAway, Finish, Stop, Look}
use Rattle.warp_tally.specs.declared.calls.Counted.{Counted}
use Rattle.warp_tally.specs.declared.calls.Counted.TheVariants.{Yes, No, NoMemory}
use Rattle.warp_tally.specs.declared.calls.TallyReply.{TallyReply}
use Rattle.warp_tally.specs.declared.calls.TallyEntry.{TallyEntry}

-- the past of a history that is listed in the order of its entries, each with its seat
abbrev pub tally_past : List (ℕ × TallyEntry) → List TallyEntry
tally_past h = reverse (map (λ e. e.1) h)

-- whether an opening is accepted and not finished, once a call counted or didn't, by whether it was so before
abbrev pub open_after : TallyCall → Counted → Opening → Bool → Bool
open_after (Accept p) Yes o was = same o p || was
open_after (Finish p) Yes o was = not (same o p) && was
open_after call counted o was = was

-- the opening is accepted and not finished since
abbrev pub is_open : Opening → List TallyEntry → Bool
is_open o [] = false
is_open o (e ∷ past) = open_after e.call e.reply.counted o (is_open o past)

-- what a tally counts
pub record Totals : Type 0 where
  pub accepted : ℕ
  pub turned : ℕ
  pub finished : ℕ
  pub stop : Option ℕ

-- the first stop stays
abbrev pub first_of : Option ℕ → ℕ → Option ℕ
first_of None code = Some code
first_of (Some first) code = Some first

-- the totals once a call counted or didn't
abbrev pub totals_after : TallyCall → Counted → Totals → Totals
totals_after (Accept o) Yes t = record t { accepted = t.accepted + 1 }
totals_after TurnAway Yes t = record t { accepted = t.accepted + 1; turned = t.turned + 1 }
totals_after (Finish o) Yes t = record t { finished = t.finished + 1 }
totals_after (Stop code) Yes t = record t { stop = first_of t.stop code }
totals_after call counted t = t

-- the totals after a past
abbrev pub totals_of : List TallyEntry → Totals
totals_of [] = record { accepted = 0; turned = 0; finished = 0; stop = None }
totals_of (e ∷ past) = totals_after e.call e.reply.counted (totals_of past)

-- no stop was kept yet
abbrev pub is_unstopped : Option ℕ → Bool
is_unstopped None = true
is_unstopped (Some code) = false

-- an answer by a test
abbrev pub yes_if : Bool → Counted
yes_if true = Yes
yes_if false = No

-- an answer by whether there is room
abbrev pub yes_with : Bool → Counted
yes_with true = Yes
yes_with false = NoMemory

-- Whether a call counts. An `Accept` does where there is memory for it, a `Finish` where its opening is
-- accepted and not finished, a `Stop` where it is the first
abbrev pub counts : Bool → List TallyEntry → TallyCall → Counted
counts room past (Accept o) = yes_with room
counts room past TurnAway = Yes
counts room past (Finish o) = yes_if (is_open o past)
counts room past (Stop code) = yes_if (is_unstopped (totals_of past).stop)
counts room past Look = No

-- a reply that shows these totals
abbrev pub reply_with : Counted → Totals → TallyReply
reply_with counted t =
    record {
      counted = counted;
      accepted = t.accepted;
      turned = t.turned;
      finished = t.finished;
      stop = t.stop;
    }

-- the reply that a call must have after the past, with room for one opening more or without
abbrev pub tally_reply : Bool → List TallyEntry → TallyCall → TallyReply
tally_reply room past call =
    reply_with (counts room past call) (totals_after call (counts room past call) (totals_of past))

-- each reply is the one that its call must have
abbrev pub IsTallyPast : List TallyEntry → Type 0
IsTallyPast [] = Unit {0}
IsTallyPast (e ∷ past) = ((room : Bool) × (e.reply ≡ tally_reply room past e.call)) × IsTallyPast past
