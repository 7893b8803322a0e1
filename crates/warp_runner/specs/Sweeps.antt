-- To be believed: how often a dispatcher swept, and what its sweeps gave.
use Rattle.std.specs.Prelude.{◌≡◌, ℕ, List, ◌∷◌, ◌++◌, Some}
use Rattle.turn_cell.specs.Weights.{weigh}
use Rattle.reg_keys.specs.declared.opening.Opening.{Opening}
use Rattle.reg_keys.specs.declared.entry.Entry.{Entry}
use Rattle.reg_keys.specs.declared.entry.Entry.TheVariants.{Close}
use Rattle.reg_keys.specs.Tests.{one_if, same}
use Rattle.timeout_mgr.specs.declared.view.TimeCall.{TimeCall}
use Rattle.timeout_mgr.specs.declared.view.TimeCall.TheVariants.{Add, Tickle, Cancel, Sweep}
use Rattle.warp_tally.specs.Accounts.{times}
use Rattle.warp_runner.specs.Deeds.{IsSweeping}
use Rattle.warp_runner.specs.Journal.{Deed}

-- one for a sweep
abbrev pub is_sweep : TimeCall → ℕ
is_sweep (Add o r) = 0
is_sweep (Tickle w alive) = 0
is_sweep (Cancel w r) = 0
is_sweep (Sweep given) = 1

-- one sweep was made after these calls on the timeouts, and then others that are none
abbrev pub HasSweptOnce : List TimeCall → List TimeCall → Type 0
HasSweptOnce old new =
    (given : List Opening) × (rest : List TimeCall) × (new ≡ old ++ Sweep given ∷ rest)
    × (weigh is_sweep rest ≡ 0)

-- how often this opening was given, by a sweep
abbrev pub gave : Opening → TimeCall → ℕ
gave o (Sweep given) = times o given
gave o _ = 0

-- one for a close of this opening
abbrev pub closes : Opening → Entry → ℕ
closes o (Close p r) = one_if (same o p)
closes o _ = 0

-- a deed is a sweep that stopped its dispatcher
abbrev pub StopsInSweep : Deed → Type 0
StopsInSweep d = IsSweeping d.acts d.stopped × ((code : ℕ) × (d.stopped ≡ Some code))
