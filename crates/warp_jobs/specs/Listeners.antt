-- To be believed: what the calls on the listener's job say.
use Rattle.std.specs.Prelude.{◌≡◌, ℕ, ◌≤◌}
use Rattle.reg_keys.specs.declared.opening.Opening.{Opening}
use Rattle.outside.specs.declared.listener.AcceptOut.{AcceptOut}
use Rattle.outside.specs.ListenCauses.{ListenerTold, HasAccepted, accepted_after}
use Rattle.warp_jobs.specs.HeldListener.{HeldListener}

-- a new job of the listener
abbrev pub HoldsListener : Opening → ListenerTold → HeldListener → Type 0
HoldsListener o told h = h ≡ record { opening = o; listener = told; accepted = 0 }

-- 1,000 accepts in a row failed
abbrev pub IsBroken : HeldListener → Type 0
IsBroken h = 1000 ≤ h.listener.failed_row

-- what an accept leaves of the listener's job: the links are counted
pub record HasListened {L : Type 0} (result : AcceptOut L) (h k : HeldListener) : Type 0 where
  pub opening : k.opening ≡ h.opening
  pub listener : HasAccepted result h.listener k.listener
  pub accepted : k.accepted ≡ accepted_after result h.accepted
