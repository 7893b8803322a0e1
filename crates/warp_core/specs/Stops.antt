-- To be believed: what an entry of the tally says of a dispatcher that stops.
use Rattle.std.specs.Prelude.{ℕ, ◌==◌}
use Rattle.reg_keys.specs.Tests.{one_if}
use Rattle.warp_tally.specs.declared.calls.TallyCall.{TallyCall}
use Rattle.warp_tally.specs.declared.calls.TallyCall.TheVariants.{Accept, TurnAway, Finish, Stop, Look}
use Rattle.warp_tally.specs.declared.calls.TallyEntry.{TallyEntry}

-- one where a call says that a dispatcher stops with this code
abbrev pub stops_by : ℕ → TallyCall → ℕ
stops_by code (Stop said) = one_if (code == said)
stops_by code (Accept o) = 0
stops_by code TurnAway = 0
stops_by code (Finish o) = 0
stops_by code Look = 0

-- one where an entry says so
abbrev pub stops : ℕ → TallyEntry → ℕ
stops code e = stops_by code e.call
