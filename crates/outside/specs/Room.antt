-- To be believed: room for bytes in memory.
use Rattle.std.specs.Prelude.{ℕ, List}

-- the bytes stored, and how many there is room for in all
pub record RoomState : Type 0 where
  pub stored : List ℕ
  pub size : ℕ
