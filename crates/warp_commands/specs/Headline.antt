-- To be believed: the half of the headline that speaks of descriptors, said of the
-- passes that a server leaves.
use Rattle.std.specs.Prelude.{ℕ, List, [], ◌∷◌, All}
use Rattle.reg_keys.specs.Promises.{RunsOnce, HasOneEventEach}
use Rattle.reg_keys.specs.AllStripes.{HappensOnce}
use Rattle.event_mgr.specs.Manager.{MgrView, seen_in}
use Rattle.event_mgr.specs.Stripes.{past_in}
use Rattle.warp_passes.specs.Passes.{PassView}
use Rattle.warp_passes.specs.Levels.{PassesAddUp}
use Rattle.warp_core.specs.Events.{KeepAllEvents}

-- In what is known of each stripe's history a callback runs at most once, and only under its own opening, and
-- one that waits and whose descriptor was reported ready has exactly one event out. Over all stripes no
-- number is drawn twice, so that an opening is made once at most and a key runs once at most
pub record RunsCallbacksOnce (v : MgrView) : Type 0 where
  pub once : (s : ℕ) → RunsOnce s 1 (past_in (seen_in s v))
  pub event : (s : ℕ) → HasOneEventEach s 1 (past_in (seen_in s v))
  pub everywhere : HappensOnce (λ s. 1) (λ s. past_in (seen_in s v))

-- whatever holds passes, by the function from each to what its pass knows
module _ {A L : Type 0} (known : A → PassView L) where
  -- what all passes did stands, each call once, in one legal history of each stripe,
  -- which each of them has seen
  abbrev pub StandsOnce : List A → Type 0
  StandsOnce [] = Unit {0}
  StandsOnce (x ∷ xs) = PassesAddUp known x xs

  -- the half of the headline that speaks of descriptors: each call stands once in one legal history, in these
  -- histories callbacks run once, and each event that they named was dispatched, or lies in the queue or in a
  -- dispatcher's hand
  pub record KeepsCallbacks (xs : List A) : Type 0 where
    pub calls : StandsOnce xs
    pub callbacks : All (λ x. RunsCallbacksOnce (known x).mgr) xs
    pub events : KeepAllEvents known xs
