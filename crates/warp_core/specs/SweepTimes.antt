-- To be believed: when a sweep is due, and that a dispatcher swept whenever one was.
use Rattle.std.specs.Prelude.{◌≡◌, ◌⊎◌, ℕ, ◌+◌, ◌<◌, ◌≤◌, List, [], ◌∷◌, ◌++◌, Bool, true, false, Option}
use Rattle.std.specs.Prelude.{Some, None, IfSome, All, map}
use Rattle.outside.specs.Moments.{ClockTold}
use Rattle.reg_keys.specs.Tests.{one_if}
use Rattle.turn_cell.specs.Weights.{weigh}
use Rattle.timeout_mgr.specs.declared.view.TimeCall.{TimeCall}
use Rattle.warp_runner.specs.Sweeps.{is_sweep}

-- A sweep is due at a moment that is this many seconds or more after the last one's, and then it is the last
-- one's itself. At the first moment none is due, and it counts as the last one's
abbrev pub IsDueAt : ℕ → Option ℕ → ℕ → Bool → Option ℕ → Type 0
IsDueAt seconds None now due last = (due ≡ false) × (last ≡ Some now)
IsDueAt seconds (Some was) now due last =
    ((due ≡ true) × (was + seconds ≤ now) × (last ≡ Some now))
    ⊎ ((due ≡ false) × (now < was + seconds) × (last ≡ Some was))

-- Beats at these moments, one after another. Behind them a sweep was due so often, and the moment of the last one
-- has gone from the first of these to the second
abbrev pub AreBeats : ℕ → List ℕ → Option ℕ → ℕ → Option ℕ → Type 0
AreBeats seconds [] was swept last = (swept ≡ 0) × (last ≡ was)
AreBeats seconds (now ∷ more) was swept last =
    (due : Bool) × (next : Option ℕ) × (rest : ℕ) × IsDueAt seconds was now due next
    × (swept ≡ one_if due + rest) × AreBeats seconds more next rest last

-- these numbers stand in a list, in their order
abbrev pub StandIn : List ℕ → List ℕ → Type 0
StandIn [] list = Unit {0}
StandIn (x ∷ xs) list =
    (before : List ℕ) × (after : List ℕ) × (list ≡ before ++ x ∷ after) × StandIn xs after

-- A dispatcher asked its clock at beats, and got these moments, which stand among all that the clock gave, where
-- it tells them. It swept as often as a sweep was due at them, the last time at this moment
pub record SweptWhenDue (seconds : ℕ) (last : Option ℕ) (clock : ClockTold) (calls : List TimeCall)
    : Type 0 where
  pub moments : List ℕ
  pub given : IfSome clock.given (λ given. StandIn moments given)
  pub swept : AreBeats seconds moments None (weigh is_sweep calls) last

-- a dispatcher never swept
abbrev pub NeverSwept : List TimeCall → Type 0
NeverSwept calls = weigh is_sweep calls ≡ 0

-- what is known of the beats of a dispatcher
pub record BeatTold : Type 0 where
  -- how many seconds lie between two sweeps at least, where it keeps the beats
  pub seconds : Option ℕ
  -- the moment of the last sweep
  pub last : Option ℕ
  -- what its clock gave
  pub clock : ClockTold
  -- its calls on the timeouts
  pub calls : List TimeCall

-- one that keeps the beats swept when that was due, and another one never
abbrev pub BeatsOf : Option ℕ → Option ℕ → ClockTold → List TimeCall → Type 0
BeatsOf None last clock calls = NeverSwept calls
BeatsOf (Some seconds) last clock calls = SweptWhenDue seconds last clock calls

abbrev pub KeepsBeats : BeatTold → Type 0
KeepsBeats b = BeatsOf b.seconds b.last b.clock b.calls

-- a dispatcher goes on so that its beats are kept as they were
pub record KeepsOn (v w : BeatTold) : Type 0 where
  pub seconds : w.seconds ≡ v.seconds
  pub keeps : KeepsBeats v → KeepsBeats w

-- the first of some dispatchers keeps the beats, and no other one
abbrev pub IsFirstAlone : ℕ → List (Option ℕ) → Type 0
IsFirstAlone seconds [] = Unit {0}
IsFirstAlone seconds (x ∷ xs) = (x ≡ Some seconds) × All (λ y. y ≡ None) xs

-- so it is of these, whose beats are kept
pub record FirstKeeps (seconds : ℕ) (bs : List BeatTold) : Type 0 where
  pub first : IsFirstAlone seconds (map (λ b. b.seconds) bs)
  pub kept : All KeepsBeats bs
