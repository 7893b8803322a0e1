-- To be believed: how a server ends, and what each end rests on.
use Rattle.std.specs.Prelude.{◌≡◌, ℕ, ◌+◌, ◌≤◌, List}
use Rattle.reg_keys.specs.declared.opening.Opening.{Opening}
use Rattle.turn_cell.specs.Weights.{weigh}
use Rattle.warp_tally.specs.declared.calls.TallyEntry.{TallyEntry}
use Rattle.warp_tally.specs.Accounts.{accepts, accepts_any, finishes, finishes_any, turns_away}
use Rattle.warp_passes.specs.Own.{entries_of}
use Rattle.warp_passes.specs.Passes.{PassView}
use Rattle.warp_runner.specs.Causes.{IsBroken, IsStarved}
use Rattle.warp_runner.specs.Journal.{Deed}
use Rattle.warp_core.specs.declared.served.Counts.{Counts}
use Rattle.warp_core.specs.declared.served.ServeEnd.{ServeEnd}
use Rattle.warp_core.specs.declared.served.ServeEnd.TheVariants.{Over, PollFault, AcceptFault, Spent}
use Rattle.warp_core.specs.declared.served.ServeEnd.TheVariants.{NoMemory}
use Rattle.warp_core.specs.Stops.{stops}

-- whatever holds passes of the shared things, by the function from each to what its pass knows
module _ {A L : Type 0} (known : A → PassView L) where
  -- what all passes did on the tally, together, by a weight of entries
  abbrev pub tally_weight : (TallyEntry → ℕ) → List A → ℕ
  tally_weight f xs = weigh (λ x. weigh f (entries_of (known x).tally)) xs

  -- As many links were accepted as was to be, some of which were turned away before they had an opening, and
  -- each other one was finished: each opening as often as it was accepted
  pub record IsOver (limit : ℕ) (counts : Counts) (xs : List A) : Type 0 where
    pub limit_is : counts.accepted ≡ limit
    pub accepted : counts.accepted ≡ tally_weight accepts_any xs + tally_weight turns_away xs
    pub turned : counts.turned ≡ tally_weight turns_away xs
    pub finished : tally_weight finishes_any xs ≡ tally_weight accepts_any xs
    pub each : (o : Opening) → tally_weight (finishes o) xs ≡ tally_weight (accepts o) xs

  -- What an end rests on, with as many faults of polls and of taking listeners as there were. The codes are
  -- those with which a dispatcher stops: 1,000 accepts in a row failed, or memory was wanted
  abbrev pub EndsSo : ℕ → ServeEnd → List A → ℕ → Type 0
  EndsSo limit (Over counts) xs faults = IsOver limit counts xs
  EndsSo limit PollFault xs faults = 1 ≤ faults
  EndsSo limit AcceptFault xs faults = 1 ≤ tally_weight (stops 9) xs
  EndsSo limit NoMemory xs faults = 1 ≤ tally_weight (stops 6) xs
  EndsSo limit Spent xs faults = Unit {0}

-- What happened that an end rests on, where that is a deed: a run of the listener after which 1,000 accepts
-- in a row have failed, or one that wanted memory, as also the beginning may
abbrev pub HasCause : ServeEnd → ((Deed → Type 0) → Type 0) → Type 0
HasCause (Over counts) SomeDid = Unit {0}
HasCause PollFault SomeDid = Unit {0}
HasCause AcceptFault SomeDid = SomeDid IsBroken
HasCause Spent SomeDid = Unit {0}
HasCause NoMemory SomeDid = SomeDid IsStarved
