-- To be believed: a sink in memory.
use Rattle.std.specs.Prelude.{◌≡◌, ℕ, ◌+◌, ◌≤◌, ◌↔◌, List, ◌++◌, Some, length, take, ◌-◌}
use Rattle.outside.specs.declared.mem_sink.MemSink.{MemSink}
use Rattle.outside.specs.declared.sink.SinkOut.{SinkOut}
use Rattle.outside.specs.declared.sink.SinkOut.TheVariants.{Stored}
use Rattle.outside.specs.Room.{RoomState}
use Rattle.outside.specs.SinkCauses.{SinkTold}

-- the bytes stored, and the room for them
abbrev pub room_of : MemSink → RoomState
room_of sink = sink.room

-- it tells all of them
abbrev pub told_of : MemSink → SinkTold
told_of sink = record { stored = Some (room_of sink).stored; faults = sink.faults.n }

-- a piece is stored as far as it fits, and is stored whole exactly where all of it fits
pub record StoresWhatFits (old new : RoomState) (piece : List ℕ) (result : SinkOut) : Type 0 where
  pub bytes : new ≡ record old { stored = old.stored ++ take (old.size - length old.stored) piece }
  pub whole : (result ≡ Stored) ↔ (length old.stored + length piece ≤ old.size)
