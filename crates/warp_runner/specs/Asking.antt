-- To be believed: that a clock may have been asked, and that nobody swept.
use Rattle.std.specs.Prelude.{Option, Some, None}
use Rattle.std.proofs.Common.{◌≡◌, ℕ, List, [], ◌++◌, sym, refl, ap, ◌∙◌, append-nil, append_assoc}
use Rattle.outside.specs.Moments.{ClockTold, Gains, Gives}
use Rattle.turn_cell.specs.Weights.{weigh}
use Rattle.timeout_mgr.specs.declared.view.TimeCall.{TimeCall}
use Rattle.warp_runner.specs.Sweeps.{is_sweep}

-- a clock handed some moments out, or none, and nothing else of it changed
abbrev pub HasAsked : ClockTold → ClockTold → Type 0
HasAsked old new = (moments : List ℕ) × Gives moments old new

-- among the calls on the timeouts there are no more sweeps than before
abbrev pub HasNotSwept : List TimeCall → List TimeCall → Type 0
HasNotSwept old new = weigh is_sweep new ≡ weigh is_sweep old

gains_none : (told : Option (List ℕ)) → Gains told told []
gains_none None = tt
gains_none (Some given) = sym (append-nil given)

gains_then : (a b c : Option (List ℕ)) (p q : List ℕ) → Gains a b p → Gains b c q → Gains a c (p ++ q)
gains_then a b None p q x y = tt
gains_then a None (Some n) p q x y = absurd y
gains_then None (Some o) (Some n) p q x y = absurd x
gains_then (Some m) (Some o) (Some n) p q x y =
    y ∙ (ap (λ (l : List ℕ). l ++ q) x ∙ append_assoc m p q)

pub asked_none : (c : ClockTold) → HasAsked c c
asked_none c = ([], record { gains = gains_none c.given; stays = refl })

pub asked_then : (a b c : ClockTold) → HasAsked a b → HasAsked b c → HasAsked a c
asked_then a b c x y = (
  x.0 ++ y.0,
  record {
    gains = gains_then a.given b.given c.given x.0 y.0 x.1.gains y.1.gains;
    stays = y.1.stays ∙ x.1.stays;
  },
)
