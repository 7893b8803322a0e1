-- Inner: what a tally stands for.
use Rattle.std.specs.Prelude.{◌≡◌, List}
use Rattle.reg_keys.specs.declared.opening.Opening.{Opening}
use Rattle.warp_tally.specs.declared.calls.TallyEntry.{TallyEntry}
use Rattle.warp_tally.specs.declared.tally.Tally.{Tally}
use Rattle.warp_tally.specs.Tallies.{Totals, is_open, totals_of, IsTallyPast}
use Rattle.warp_tally.specs.OpenSet.{holds}

-- what the tally has counted
abbrev pub totals_in : Tally → Totals
totals_in t = record { accepted = t.accepted; turned = t.turned; finished = t.finished; stop = t.stop }

-- each reply of the past was right, the set holds what is open after it, and the counts are its totals
pub record RepresentsTally (past : List TallyEntry) (t : Tally) : Type 0 where
  pub right : IsTallyPast past
  pub holds_open : (o : Opening) → holds t.open o ≡ is_open o past
  pub counts : totals_in t ≡ totals_of past
