-- Inner: the end of a command that a connection's step comes to, and what a run of steps leaves.
use Rattle.std.specs.Prelude.{◌≡◌, ◌⊎◌, ℕ, ◌≤◌, List, [], ◌∷◌, ◌++◌, Option, Some, None, option_map}
use Rattle.outside.specs.Causes.{KeepsLink, LinkTold}
use Rattle.outside.specs.Counts.{Rises}
use Rattle.outside.specs.FileCauses.{FilesTold}
use Rattle.conn_loop.specs.declared.supply.Supply.{Supply}
use Rattle.conn_loop.specs.declared.supply.Supply.TheVariants as supply
use Rattle.conn_loop.specs.Causes.{CountsWaits}
use Rattle.conn_loop.specs.declared.step.Step.{Step}
use Rattle.conn_loop.specs.declared.step.Step.TheVariants.{WantRead, WantWrite, WantFile, Done}
use Rattle.conn_loop.specs.declared.step.End.{End as Finish}
use Rattle.conn_loop.specs.declared.step.End.TheVariants as End
use Rattle.warp_commands.specs.declared.status.Status.{Status}
use Rattle.warp_commands.specs.declared.status.Status.TheVariants.{Clean, Cut, ReadFault, WriteFault}
use Rattle.warp_commands.specs.declared.status.Status.TheVariants.{FileFault, NoMemory, NotReady}
use Rattle.warp_commands.specs.Causes.{LooksBelow}

-- how a command ends whose connection went so far, where no file is wanted any more
abbrev pub status_after : Step → Status
status_after WantRead = NotReady
status_after WantWrite = NotReady
status_after WantFile = NotReady
status_after (Done End.Clean) = Clean
status_after (Done End.Cut) = Cut
status_after (Done End.ReadFault) = ReadFault
status_after (Done End.WriteFault) = WriteFault
status_after (Done End.FileFault) = FileFault
status_after (Done End.NoMemory) = NoMemory

-- the files failed only where their count rose
abbrev pub FailsSince : Option Finish → (before since : ℕ) → Type 0
FailsSince None before since = Unit {0}
FailsSince (Some End.Clean) before since = ⊥
FailsSince (Some End.Cut) before since = ⊥
FailsSince (Some End.ReadFault) before since = ⊥
FailsSince (Some End.WriteFault) before since = ⊥
FailsSince (Some End.FileFault) before since = Rises before since
FailsSince (Some End.NoMemory) before since = Unit {0}

-- a fault has its cause in the counts
abbrev pub FaultSince : Step → (link later : LinkTold) → (files since : FilesTold) → Type 0
FaultSince WantRead link later files since = Unit {0}
FaultSince WantWrite link later files since = Unit {0}
FaultSince WantFile link later files since = Unit {0}
FaultSince (Done End.Clean) link later files since = Unit {0}
FaultSince (Done End.Cut) link later files since = Unit {0}
FaultSince (Done End.ReadFault) link later files since = Rises link.faults.reads later.faults.reads
FaultSince (Done End.WriteFault) link later files since = Rises link.faults.writes later.faults.writes
FaultSince (Done End.FileFault) link later files since = Rises files.faults since.faults
FaultSince (Done End.NoMemory) link later files since = Unit {0}

-- what looks and reads leave of files
pub record FilesKept (files since : FilesTold) : Type 0 where
  pub later : files.faults ≤ since.faults
  pub rooted : since.rooted ≡ files.rooted
  pub firm : since.firm ≡ files.firm
  pub looks : LooksBelow files.looked since.looked

-- a look for a path, or none
pub record MayLook (path : List ℕ) (fails : Option Finish) (files since : FilesTold) : Type 0 where
  pub later : files.faults ≤ since.faults
  pub rooted : since.rooted ≡ files.rooted
  pub firm : since.firm ≡ files.firm
  pub looked : (since.looked ≡ files.looked)
      ⊎ (since.looked ≡ option_map (λ paths. paths ++ path ∷ []) files.looked)
  pub failed : FailsSince fails files.faults since.faults

-- the end that what was supplied leads to
abbrev pub fails_by : {X : Type 0} → Supply X → Option Finish
fails_by (supply.Leased lease) = None
fails_by supply.Absent = None
fails_by supply.Failed = Some End.FileFault
fails_by supply.NoMemory = Some End.NoMemory

-- what a run of steps leaves, and why it ended
pub record Brings (step : Step) (link later : LinkTold) (files since : FilesTold) : Type 0 where
  pub fault : FaultSince step link later files since
  pub waits : CountsWaits step link later
  pub of_link : KeepsLink link later
  pub of_files : FilesKept files since
