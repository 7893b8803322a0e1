-- To be believed: what the listener's job holds.
use Rattle.std.specs.Prelude.{ℕ}
use Rattle.reg_keys.specs.declared.opening.Opening.{Opening}
use Rattle.outside.specs.ListenCauses.{ListenerTold}

-- what the listener's job holds: its opening, what the listener tells, and how many links it gave
pub record HeldListener : Type 0 where
  pub opening : Opening
  pub listener : ListenerTold
  pub accepted : ℕ
