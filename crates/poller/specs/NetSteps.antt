-- To be believed: the steps of a memory net as steps of the device world. To split a seat is none.
use Rattle.std.specs.Prelude.{◌≡◌, ℕ, ◌+◌, ◌||◌, List, [], ◌∷◌, ◌++◌}
use Rattle.std.specs.List.{list_any}
use Rattle.reg_keys.specs.declared.entry.Entry.{Entry}
use Rattle.reg_keys.specs.declared.opening.Opening.{Opening}
use Rattle.reg_keys.specs.declared.registration.Dir.{Dir}
use Rattle.reg_keys.specs.declared.registration.Dir.TheVariants.{Read, Write}
use Rattle.reg_keys.specs.Histories.{IsLive, mark_of}
use Rattle.reg_keys.specs.Tests.{how_many, same}
use Rattle.reg_keys.specs.World.{World, WorldStep, Ready, Use, Poll, Blocked, IsLawful, world_at}

-- A word is raised: the device of its opening becomes ready to read and to write, and the poller
-- that raised it takes both edges
abbrev pub steps_of_raise : Opening → List WorldStep
steps_of_raise o = Ready o Read ∷ Ready o Write ∷ Poll o Read 1 ∷ Poll o Write 1 ∷ []

-- the words of these openings are raised, one after the other
abbrev pub steps_of_raises : List Opening → List WorldStep
steps_of_raises [] = []
steps_of_raises (o ∷ os) = steps_of_raise o ++ steps_of_raises os

-- A load by which a link or a listener answers that its caller must wait: what was ready is used up, and the
-- caller has tried in vain. A load with another answer is no step
abbrev pub steps_of_wait : Opening → Dir → ℕ → List WorldStep
steps_of_wait o d m = Use o d ∷ Blocked o d m ∷ []

-- what raises make of a world
pub record RaisesAreLawful (s c : ℕ) (w : World) (raised : List Opening) : Type 0 where
  -- each step may come where it comes
  pub lawful : IsLawful s c w (steps_of_raises raised)
  -- no edge is left that no poller has seen
  pub edges : (o : Opening) (d : Dir) → (world_at s c w (steps_of_raises raised)).edges o d ≡ w.edges o d
  -- each raise leaves one report to be made in each direction
  pub hands : (o : Opening) (d : Dir)
      → (world_at s c w (steps_of_raises raised)).hands o d ≡ w.hands o d + how_many (λ p. same p o) raised
  -- what was raised is ready
  pub truth : (o : Opening) (d : Dir)
      → (world_at s c w (steps_of_raises raised)).truth o d ≡ (w.truth o d || list_any (λ p. same p o) raised)
  -- the stripe is as it was
  pub past : (world_at s c w (steps_of_raises raised)).past ≡ w.past

-- the mark is one that was told of a live opening
abbrev pub WasTold : ℕ → ℕ → World → Opening → Dir → ℕ → Type 0
WasTold s c w o d m =
    (later : List Entry) × (earlier : List Entry) × (w.past ≡ later ++ earlier) × IsLive earlier o
    × (m ≡ mark_of s c earlier o d)

-- what a wait makes of a world
pub record WaitIsLawful (s c : ℕ) (w : World) (o : Opening) (d : Dir) (m : ℕ) : Type 0 where
  pub lawful : IsLawful s c w (steps_of_wait o d m)
  pub edges : (world_at s c w (steps_of_wait o d m)).edges ≡ w.edges
  pub hands : (world_at s c w (steps_of_wait o d m)).hands ≡ w.hands
  pub past : (world_at s c w (steps_of_wait o d m)).past ≡ w.past
