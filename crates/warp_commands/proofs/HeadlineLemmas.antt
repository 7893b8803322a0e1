-- Inner: what passes keep that were brought level.
use Rattle.std.proofs.Common.{ℕ, List, [], ◌∷◌}
use Rattle.std.specs.Prelude.{All, get_or}
use Rattle.reg_keys.specs.Promises.{RunsOnce, HasOneEventEach}
use Rattle.reg_keys.specs.AllStripes.{HappensOnce}
use Rattle.event_mgr.specs.Manager.{MgrView, IsLawful, seen_in}
use Rattle.event_mgr.specs.Stripes.{past_in}
use Rattle.warp_passes.specs.Passes.{PassView, IsLawfulPass}
use Rattle.warp_passes.specs.Levels.{ArePassesLevel, PassesAddUp}
use Rattle.warp_core.specs.Events.{KeepAllEvents}
use Rattle.warp_commands.specs.Headline.{KeepsCallbacks, StandsOnce}

module _ {A L : Type 0} (known : A → PassView L) where
  stands : ((x : A) (xs : List A) → All (λ y. IsLawfulPass (known y)) (x ∷ xs)
      → ArePassesLevel known (x ∷ xs) → PassesAddUp known x xs)
      → (xs : List A) → All (λ y. IsLawfulPass (known y)) xs → ArePassesLevel known xs → StandsOnce known xs
  stands law [] lawful level = tt
  stands law (x ∷ xs) lawful level = law x xs lawful level

  -- the laws of histories, of each pass
  pub keeps_callbacks : ((v : MgrView) (s : ℕ) → IsLawful v → RunsOnce s 1 (past_in (seen_in s v)))
      → ((v : MgrView) (s : ℕ) → IsLawful v → HasOneEventEach s 1 (past_in (seen_in s v)))
      → ((v : MgrView) → IsLawful v → HappensOnce (λ s. 1) (λ s. past_in (seen_in s v)))
      → ((x : A) (xs : List A) → All (λ y. IsLawfulPass (known y)) (x ∷ xs) → ArePassesLevel known (x ∷ xs)
      → PassesAddUp known x xs)
      → (xs : List A) → All (λ y. IsLawfulPass (known y)) xs → ArePassesLevel known xs
      → KeepAllEvents known xs → KeepsCallbacks known xs
  keeps_callbacks once event everywhere law xs lawful level events = record {
    calls = stands law xs lawful level;
    callbacks = λ k other here.
        let v = (known (get_or xs k other)).mgr in
        let its = (lawful k other here).mgr in
        record { once = λ s. once v s its; event = λ s. event v s its; everywhere = everywhere v its };
    events = events;
  }
