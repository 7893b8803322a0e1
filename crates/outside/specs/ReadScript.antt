-- To be believed: what a link in memory will give, read by read.
use Rattle.std.specs.Prelude.{◌≡◌, ℕ, ◌<◌, ◌≤◌, Bool, true, IsTrue, List, [], ◌∷◌, ◌++◌, nat_lt, take, drop}
use Rattle.std.specs.Prelude.{length, map, min}
use Rattle.std.specs.List.{flat_map, list_all}
use Rattle.outside.specs.declared.link.ReadOut.{ReadOut}
use Rattle.outside.specs.declared.link.ReadOut.TheVariants as Reads
use Rattle.outside.specs.declared.read_script.ReadEvent.{ReadEvent}
use Rattle.outside.specs.declared.read_script.ReadEvent.TheVariants as Events

-- what is left of one event: bytes to be given, a read that must wait, a read that fails
pub data ReadStep : Type 0 where
  Gives : List ℕ → ReadStep
  Waits : ReadStep
  Fails : ReadStep

-- the bytes given so far, and the steps that are left
pub record ReadState : Type 0 where
  pub given : List ℕ
  pub left : List ReadStep

-- the bytes of an event
abbrev pub piece_of : ReadEvent → List ℕ
piece_of (Events.Piece bytes) = bytes.items
piece_of Events.NotYet = []
piece_of Events.Fail = []

-- what is left of an event of which this many bytes were given
abbrev pub step_behind : ReadEvent → ℕ → ReadStep
step_behind (Events.Piece bytes) n = Gives (drop n bytes.items)
step_behind Events.NotYet n = Waits
step_behind Events.Fail n = Fails

-- the steps of events of which none was given yet
abbrev pub steps_of : List ReadEvent → List ReadStep
steps_of events = map (λ event. step_behind event 0) events

-- a piece has at least one byte
abbrev pub is_filled : ReadEvent → Bool
is_filled (Events.Piece bytes) = nat_lt 0 (length bytes.items)
is_filled Events.NotYet = true
is_filled Events.Fail = true

-- each piece has at least one byte
abbrev pub EachFilled : List ReadEvent → Type 0
EachFilled events = IsTrue (list_all is_filled events)

-- the rest of a piece stays for the next read, and an empty rest is gone
abbrev pub with_rest : List ℕ → List ReadStep → List ReadStep
with_rest [] more = more
with_rest (byte ∷ bytes) more = Gives (byte ∷ bytes) ∷ more

-- the steps of which the first one has lost this many bytes
abbrev pub steps_behind : List ReadEvent → ℕ → List ReadStep
steps_behind [] n = []
steps_behind (event ∷ events) n = step_behind event n ∷ steps_of events

-- the first so many bytes of the first event
abbrev pub bytes_before : List ReadEvent → ℕ → List ℕ
bytes_before [] n = []
bytes_before (event ∷ events) n = take n (piece_of event)

-- this many bytes of the first event were given, and fewer than it has
abbrev pub IsWithin : List ReadEvent → ℕ → Type 0
IsWithin [] n = n ≡ 0
IsWithin (Events.Piece bytes ∷ events) n = n < length bytes.items
IsWithin (Events.NotYet ∷ events) n = n ≡ 0
IsWithin (Events.Fail ∷ events) n = n ≡ 0

-- a place in a list of events: so many are done, and so many bytes of the next one were given
pub record IsPlace (events : List ReadEvent) (done given : ℕ) : Type 0 where
  pub inside : done ≤ length events
  pub within : IsWithin (drop done events) given
  pub filled : EachFilled events

-- what was given and what is left at a place
abbrev pub state_at : List ReadEvent → ℕ → ℕ → ReadState
state_at events done given = record {
  given = flat_map piece_of (take done events) ++ bytes_before (drop done events) given;
  left = steps_behind (drop done events) given;
}

-- A read gives as many bytes of the next piece as fit, and its rest stays for the next read; after the last
-- step the input is over.
abbrev pub PlaysRead : List ReadStep → List ReadStep → ReadOut → List ℕ → Type 0
PlaysRead [] new result buf = (result ≡ Reads.End) × (new ≡ [])
PlaysRead (Waits ∷ more) new result buf = (result ≡ Reads.NotYet) × (new ≡ more)
PlaysRead (Fails ∷ more) new result buf = (result ≡ Reads.Failed) × (new ≡ more)
PlaysRead (Gives bytes ∷ more) new result buf =
    let n = min (length bytes) (length buf) in
    (result ≡ Reads.Got n) × (take n buf ≡ take n bytes) × (new ≡ with_rest (drop n bytes) more)
