-- Inner: a script's steps laid end to end: how far they go once some of them were delivered.
use Rattle.std.specs.Prelude.{◌≡◌, ℕ, ◌+◌, ◌≤◌, List, length, map, slice_index, take}
use Rattle.poller.specs.declared.laid_script.Reached.{Reached}
use Rattle.poller.specs.declared.script.ScriptStep.{ScriptStep}
use Rattle.poller.specs.Scripts.{allowed_in, pieces_in}

-- the input and how far it goes are those of the first k steps: how many bytes of input and how many of
-- allowance there are once j of them were delivered
pub record Lays (steps : List ScriptStep) (k : ℕ) (input : List ℕ) (reached : List Reached) : Type 0 where
  pub whole : input ≡ pieces_in (take k steps)
  pub count : length reached ≡ k + 1
  pub inputs : (j : ℕ) → j ≤ k
      → slice_index (map (λ (r : Reached). r.input) reached) j ≡ length (pieces_in (take j steps))
  pub allowances : (j : ℕ) → j ≤ k
      → slice_index (map (λ (r : Reached). r.allowance) reached) j ≡ allowed_in (take j steps)
