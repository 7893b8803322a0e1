-- To be believed: a link in memory, what it will still do and what it has done.
use Rattle.std.specs.Prelude.{◌≡◌, ℕ, ◌+◌, ◌-◌, ◌≤◌, Bool, false, List, [], ◌∷◌, ◌++◌, Some, None}
use Rattle.std.specs.Prelude.{if◌then◌else◌, drop, length, min, nat_le}
use Rattle.outside.specs.declared.link.WriteOut.{WriteOut}
use Rattle.outside.specs.declared.link.WriteOut.TheVariants as Writes
use Rattle.outside.specs.declared.piece_link.WriteEvent.{WriteEvent}
use Rattle.outside.specs.declared.piece_link.WriteEvent.TheVariants as Events
use Rattle.outside.specs.declared.piece_link.PieceLink.{PieceLink}
use Rattle.outside.specs.declared.read_script.ReadEvent.{ReadEvent}
use Rattle.outside.specs.Causes.{LinkTold, bytes_taken}
use Rattle.outside.specs.Counts.{nothing_counted}
use Rattle.outside.specs.ReadScript.{ReadState, steps_of}
use Rattle.outside.specs.Room.{RoomState}

-- the bytes given and the reads to come, the writes to come, the bytes sent with the room for them, and
-- whether the end was answered
pub record LinkState : Type 0 where
  pub reads : ReadState
  pub writes : List WriteEvent
  pub room : RoomState
  pub ended : Bool

-- what a link stands for
abbrev pub state_of : PieceLink → LinkState
state_of link = record {
  reads = link.reads;
  writes = drop link.written link.writes.items;
  room = link.room;
  ended = link.ended;
}

-- it tells its bytes and no plan
abbrev pub told_of : PieceLink → LinkTold
told_of link = record {
  taken = Some link.reads.given;
  sent = Some link.room.stored;
  ended = Some link.ended;
  plan = None;
  faults = record { reads = link.read_faults.n; writes = link.write_faults.n };
  waits = record { reads = link.read_waits.n; writes = link.write_waits.n };
}

-- a link in memory of which nothing was asked yet tells so
abbrev pub fresh_told : LinkTold
fresh_told = record {
  taken = Some [];
  sent = Some [];
  ended = Some false;
  plan = None;
  faults = nothing_counted;
  waits = nothing_counted;
}

-- a link of which nothing was asked yet
abbrev pub fresh_link : List ReadEvent → List WriteEvent → ℕ → LinkState
fresh_link reads writes size = record {
  reads = record { given = []; left = steps_of reads };
  writes = writes;
  room = record { stored = []; size = size };
  ended = false;
}

-- bytes that fit are taken, and others fail
abbrev pub taken_if_free : ℕ → ℕ → WriteOut
taken_if_free n free = if nat_le n free then Writes.Took n else Writes.Failed

-- what a write answers to a piece of a length, where this many bytes are free
abbrev pub write_answer : List WriteEvent → ℕ → ℕ → WriteOut
write_answer [] size free = taken_if_free size free
write_answer (Events.Take n ∷ more) size free = taken_if_free (min n size) free
write_answer (Events.NotYet ∷ more) size free = Writes.NotYet
write_answer (Events.Fail ∷ more) size free = Writes.Failed

-- what is taken is no more than the piece has, and fits
abbrev pub FitsIn : WriteOut → ℕ → RoomState → Type 0
FitsIn (Writes.Took n) size room = (n ≤ size) × (length room.stored + n ≤ room.size)
FitsIn _ size room = Unit {0}

-- a write answers what the next event says, stores what it takes and leaves the events
-- after it; what concerns reads stays
pub record PlaysWrite (old new : LinkState) (piece : List ℕ) (result : WriteOut) : Type 0 where
  pub answer : result ≡ write_answer old.writes (length piece) (old.room.size - length old.room.stored)
  pub same : new ≡ record old {
    writes = drop 1 old.writes;
    room = record old.room { stored = old.room.stored ++ bytes_taken result piece };
  }
