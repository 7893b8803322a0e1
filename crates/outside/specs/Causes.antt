-- To be believed: what contracts know of a link, and what a read and a write make of it.
use Rattle.std.specs.Prelude.{◌≡◌, ℕ, ◌≤◌, Bool, true, false, ◌||◌, IsTrue, List, [], ◌++◌, Option, IfSome}
use Rattle.std.specs.Prelude.{option_map, take, length}
use Rattle.outside.specs.declared.link.ReadOut.{ReadOut}
use Rattle.outside.specs.declared.link.ReadOut.TheVariants.{Got, End}
use Rattle.outside.specs.declared.link.ReadOut.TheVariants as Reads
use Rattle.outside.specs.declared.link.WriteOut.{WriteOut}
use Rattle.outside.specs.declared.link.WriteOut.TheVariants.{Took}
use Rattle.outside.specs.declared.link.WriteOut.TheVariants as Writes
use Rattle.outside.specs.Counts.{Counts, Rises, more_by_one}

-- what contracts know of a link
pub record LinkTold : Type 0 where
  -- the bytes read so far, where they are told
  pub taken : Option (List ℕ)
  -- the bytes written so far, where they are told
  pub sent : Option (List ℕ)
  -- whether the link has answered `End`; told exactly where `taken` is
  pub ended : Option Bool
  -- a number and the whole input that the link will give, where they are told
  pub plan : Option (ℕ × List ℕ)
  -- how many faults there were, of reads and of writes
  pub faults : Counts
  -- how many answers were `NotYet`, of reads and of writes
  pub waits : Counts

-- the bytes that a read gave
abbrev pub bytes_got : ReadOut → List ℕ → List ℕ
bytes_got (Got n) buf = take n buf
bytes_got End buf = []
bytes_got Reads.NotYet buf = []
bytes_got Reads.Failed buf = []

-- whether a read answered that the input is over
abbrev pub is_end : ReadOut → Bool
is_end End = true
is_end _ = false

-- a read that gives bytes gives at least one, within the buffer
abbrev pub GivesWithin : ReadOut → List ℕ → Type 0
GivesWithin (Got n) buf = (1 ≤ n) × (n ≤ length buf)
GivesWithin _ buf = Unit {0}

-- the bytes of the piece that a write took: its first ones
abbrev pub bytes_taken : WriteOut → List ℕ → List ℕ
bytes_taken (Took n) piece = take n piece
bytes_taken _ piece = []

-- a write takes no more than the piece has
abbrev pub TakesWithin : WriteOut → List ℕ → Type 0
TakesWithin (Took n) piece = n ≤ length piece
TakesWithin _ piece = Unit {0}

-- a read that failed raised the faults of reads, and these never fall
pub record ReadFaults (result : ReadOut) (old new : Counts) : Type 0 where
  pub later : old.reads ≤ new.reads
  pub failed : result ≡ Reads.Failed → Rises old.reads new.reads

-- a read that must wait raises the waits of reads by one, and nothing else touches the waits
abbrev pub ReadWaits : ReadOut → Counts → Counts → Type 0
ReadWaits Reads.NotYet old new = (new.reads ≡ more_by_one old.reads) × (new.writes ≡ old.writes)
ReadWaits _ old new = new ≡ old

-- a write that failed or took nothing raised the faults of writes, and these never fall
pub record WriteFaults (result : WriteOut) (old new : Counts) : Type 0 where
  pub later : old.writes ≤ new.writes
  pub failed : result ≡ Writes.Failed → Rises old.writes new.writes
  pub nothing : result ≡ Took 0 → Rises old.writes new.writes

-- a write that must wait raises the waits of writes by one, and nothing else touches the waits
abbrev pub WriteWaits : WriteOut → Counts → Counts → Type 0
WriteWaits Writes.NotYet old new = (new.writes ≡ more_by_one old.writes) × (new.reads ≡ old.reads)
WriteWaits _ old new = new ≡ old

-- what a read makes of a link that gave these bytes
pub record Read (result : ReadOut) (got : List ℕ) (old new : LinkTold) : Type 0 where
  pub takes : new.taken ≡ option_map (λ bytes. bytes ++ got) old.taken
  pub ends : new.ended ≡ option_map (λ e. e || is_end result) old.ended
  pub faulted : ReadFaults result old.faults new.faults
  pub waited : ReadWaits result old.waits new.waits
  pub same : new ≡ record old {
    taken = new.taken;
    ended = new.ended;
    faults = record old.faults { reads = new.faults.reads };
    waits = new.waits;
  }

-- what a write makes of a link that took these bytes
pub record Wrote (result : WriteOut) (took : List ℕ) (old new : LinkTold) : Type 0 where
  pub sends : new.sent ≡ option_map (λ bytes. bytes ++ took) old.sent
  pub faulted : WriteFaults result old.faults new.faults
  pub waited : WriteWaits result old.waits new.waits
  pub same : new ≡ record old {
    sent = new.sent;
    faults = record old.faults { writes = new.faults.writes };
    waits = new.waits;
  }

-- a link that was not used, as far as it tells
pub record IsFresh (link : LinkTold) : Type 0 where
  pub nothing_taken : IfSome link.taken (λ bytes. bytes ≡ [])
  pub nothing_sent : IfSome link.sent (λ bytes. bytes ≡ [])
  pub not_ended : IfSome link.ended (λ e. e ≡ false)

-- what reads and writes leave of a link: its plan, and counts of faults that never fall
pub record KeepsLink (old new : LinkTold) : Type 0 where
  pub reads : old.faults.reads ≤ new.faults.reads
  pub writes : old.faults.writes ≤ new.faults.writes
  pub plan : new.plan ≡ old.plan

-- the bytes taken begin the input of the plan, and are all of it once the link has ended
abbrev pub FollowsPlan : LinkTold → Type 0
FollowsPlan link =
    IfSome link.plan (λ p. IfSome link.taken (λ bytes. ((rest : List ℕ) × (p.1 ≡ bytes ++ rest))
    × (IfSome link.ended (λ e. IsTrue e → p.1 ≡ bytes))))
