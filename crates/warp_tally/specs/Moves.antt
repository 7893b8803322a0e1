-- Inner: what one call does to a tally, before its reply is made.
use Rattle.std.specs.Prelude.{◌≡◌, ◌<◌, ◌^◌, Bool}
use Rattle.reg_keys.specs.declared.opening.Opening.{Opening}
use Rattle.warp_tally.specs.declared.calls.TallyCall.{TallyCall}
use Rattle.warp_tally.specs.declared.calls.TallyCall.TheVariants.{Accept, TurnAway, Finish, Stop, Look}
use Rattle.warp_tally.specs.declared.calls.Counted.{Counted}
use Rattle.warp_tally.specs.declared.calls.Counted.TheVariants.{Yes, No}
use Rattle.warp_tally.specs.declared.tally.Tally.{Tally}
use Rattle.warp_tally.specs.Tallies.{open_after, totals_after, is_unstopped, yes_if, yes_with}
use Rattle.warp_tally.specs.OpenSet.{holds}
use Rattle.warp_tally.specs.RepresentsTally.{totals_in}

-- whether a call counts, by what the tally holds
abbrev pub counts_in : Bool → Tally → TallyCall → Counted
counts_in room t (Accept o) = yes_with room
counts_in room t TurnAway = Yes
counts_in room t (Finish o) = yes_if (holds t.open o)
counts_in room t (Stop code) = yes_if (is_unstopped t.stop)
counts_in room t Look = No

-- the call counted or didn't, and did what it does then
pub record HasMoved (call : TallyCall) (counted : Counted) (t u : Tally) : Type 0 where
  pub room : Bool
  pub counts : counted ≡ counts_in room t call
  pub totals : totals_in u ≡ totals_after call counted (totals_in t)
  pub opens : (o : Opening) → holds u.open o ≡ open_after call counted o (holds t.open o)

-- no count can wrap
abbrev pub HasRoom : Tally → Type 0
HasRoom t = (t.accepted < 2 ^ 62) × (t.turned < 2 ^ 62) × (t.finished < 2 ^ 62)
