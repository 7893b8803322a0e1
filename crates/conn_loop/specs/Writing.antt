-- Inner: what a run of writes did to a part of what is to be written, and to the link.
use Rattle.std.specs.Prelude.{◌≡◌, ℕ, ◌<◌, ◌≤◌, List, [], ◌++◌, length, option_map}
use Rattle.outside.specs.Causes.{LinkTold}
use Rattle.outside.specs.Counts.{Counts, Rises, more_by_one}
use Rattle.conn_loop.specs.declared.writing.WriteEnd.{WriteEnd}
use Rattle.conn_loop.specs.declared.writing.WriteEnd.TheVariants.{All, Waits, Fails}

-- all of a part is written, or some of it is left
abbrev pub Leaves : WriteEnd → List ℕ → Type 0
Leaves All left = left ≡ []
Leaves Waits left = 0 < length left
Leaves Fails left = 0 < length left

-- a wait of writes was counted exactly where writing stopped for one
abbrev pub CountsWait : WriteEnd → Counts → Counts → Type 0
CountsWait Waits old new = (new.writes ≡ more_by_one old.writes) × (new.reads ≡ old.reads)
CountsWait All old new = new ≡ old
CountsWait Fails old new = new ≡ old

-- what a run of writes made of a link that took these bytes, and why writing stopped
pub record Ran (end : WriteEnd) (front : List ℕ) (link later : LinkTold) : Type 0 where
  pub sends : later.sent ≡ option_map (λ bytes. bytes ++ front) link.sent
  pub counted : link.faults.writes ≤ later.faults.writes
  pub failed : end ≡ Fails → Rises link.faults.writes later.faults.writes
  pub waited : CountsWait end link.waits later.waits
  pub same : later ≡ record link {
    sent = later.sent;
    faults = record link.faults { writes = later.faults.writes };
    waits = later.waits;
  }

-- the front of a part was written
pub record Writes (end : WriteEnd) (old new : List ℕ) (link later : LinkTold) : Type 0 where
  pub front : List ℕ
  pub split : old ≡ front ++ new
  pub left : Leaves end new
  pub ran : Ran end front link later
