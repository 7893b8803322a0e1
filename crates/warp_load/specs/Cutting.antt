-- Inner: how far bytes are cut into the steps of a script.
use Rattle.std.specs.Prelude.{◌≡◌, ℕ, ◌<◌, ◌^◌, List, ◌++◌, map, vec_len}
use Rattle.warp_load.specs.declared.cutter.Cutter.{Cutter}
use Rattle.warp_load.specs.LoadScripts.{piece_length, step_shown, steps_for}

-- how many bytes the next step of a cutter brings
abbrev pub next_length : Cutter → ℕ
next_length c = piece_length c.seed c.connection (vec_len c.steps)

-- The bytes `front` are cut into steps but for a piece that isn't full: whatever bytes follow, the steps for
-- all of them are these, and then the steps for the piece and what follows.
pub record IsCut (c : Cutter) (front : List ℕ) : Type 0 where
  pub short : vec_len c.piece < next_length c
  pub goes_on : (later : List ℕ) → steps_for c.seed c.connection 0 (front ++ later)
      ≡ map step_shown c.steps.items ++ steps_for c.seed c.connection (vec_len c.steps)
      (c.piece.items ++ later)

-- the numbers of a cutter are so small that no sum of theirs is too large
pub record IsSmall (c : Cutter) : Type 0 where
  pub seed : c.seed < 2 ^ 32
  pub connection : c.connection < 2 ^ 32

-- the cutter is that of the same connection
pub record IsSameCutter (old new : Cutter) : Type 0 where
  pub seed : new.seed ≡ old.seed
  pub connection : new.connection ≡ old.connection
