use Rattle.std.proofs.Common.{◌≡◌, ◌*◌, ◌≤◌, take}
use Rattle.poller.specs.LaidScripts.{Lays}
use Rattle.poller.specs.Scripts.{allowed_in}
use Rattle.poller.proofs.laid_script.lay_out.Given as goal

-- the steps so far are laid, and each allows fewer than 2^32 bytes
abbrev pub invariant-loop-step : goal.invariant-loop-step
invariant-loop-step l =
    Lays l.steps l.step-index l.input.items l.reached.items
    × (l.allowance ≡ allowed_in (take l.step-index l.steps)) × (l.allowance ≤ l.step-index * 4294967295)
