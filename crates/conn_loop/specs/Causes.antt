-- To be believed: why a connection answers as it does, by the counts of the very link and files.
use Rattle.std.specs.Prelude.{◌≡◌, ◌⊎◌, ℕ, ◌≤◌, List, ◌++◌, Option, Some, None, IfNone}
use Rattle.outside.specs.Causes.{LinkTold, KeepsLink}
use Rattle.outside.specs.Counts.{Rises, more_by_one}
use Rattle.outside.specs.FileCauses.{FilesTold}
use Rattle.outside.specs.Moments.{ClockTold, Gives}
use Rattle.conn_loop.specs.declared.step.Step.{Step}
use Rattle.conn_loop.specs.declared.step.Step.TheVariants.{WantRead, WantWrite, WantFile, Done}
use Rattle.conn_loop.specs.declared.step.End.{End}
use Rattle.conn_loop.specs.declared.step.End.TheVariants.{Clean, Cut, ReadFault, WriteFault, FileFault}
use Rattle.conn_loop.specs.declared.step.End.TheVariants.{NoMemory}
use Rattle.conn_loop.specs.Stages.{failing, FailsBy}
use Rattle.conn_loop.specs.ConnState.{ConnState}

-- A fault is answered only where the count of its own kind rose: that of the link in this call, that
-- of the files in this call or in the one where the connection began to fail. Want of memory is
-- answered only where it was supplied.
abbrev pub HasFault : Step → (before : Option End) → (link later : LinkTold)
    → (files since : FilesTold) → Type 0
HasFault (Done ReadFault) before link later files since = Rises link.faults.reads later.faults.reads
HasFault (Done WriteFault) before link later files since = Rises link.faults.writes later.faults.writes
HasFault (Done FileFault) before link later files since =
    (before ≡ Some FileFault) ⊎ Rises files.faults since.faults
HasFault (Done Clean) before link later files since = Unit {0}
HasFault (Done Cut) before link later files since = Unit {0}
HasFault (Done NoMemory) before link later files since = before ≡ Some NoMemory
HasFault WantRead before link later files since = Unit {0}
HasFault WantWrite before link later files since = Unit {0}
HasFault WantFile before link later files since = Unit {0}

-- what a call that was made before the connection was over answers, and why it may fail from then on
pub record IsCaused (result : Step) (old new : ConnState) (link later : LinkTold)
    (files since : FilesTold) : Type 0 where
  pub fault : HasFault result (failing old.stage) link later files since
  pub fails : IfNone new.over (FailsBy (failing old.stage) (failing new.stage) files.faults since.faults)

-- one wait of the direction that is wanted was counted, and no other
abbrev pub CountsWaits : Step → (link later : LinkTold) → Type 0
CountsWaits WantRead link later =
    (later.waits.reads ≡ more_by_one link.waits.reads) × (later.waits.writes ≡ link.waits.writes)
CountsWaits WantWrite link later =
    (later.waits.writes ≡ more_by_one link.waits.writes) × (later.waits.reads ≡ link.waits.reads)
CountsWaits WantFile link later = later.waits ≡ link.waits
CountsWaits (Done end) link later = later.waits ≡ link.waits

-- how a step ends the connection
abbrev pub end_of : Step → Option End
end_of WantRead = None
end_of WantWrite = None
end_of WantFile = None
end_of (Done end) = Some end

-- the moments that came to the connection are those that the clock gave
pub record Clocked (old new : ConnState) (clock after : ClockTold) : Type 0 where
  pub gained : List ℕ
  pub grown : new.moments ≡ old.moments ++ gained
  pub gave : Gives gained clock after

-- what looks and writes leave of files that were only read from: all but a count of faults that never falls
pub record ReadsOnly (files since : FilesTold) : Type 0 where
  pub later : files.faults ≤ since.faults
  pub same : since ≡ record files { faults = since.faults }

-- what a call leaves of link and files: the plan, and counts of faults that never fall; no path is looked for
pub record Keeps (link later : LinkTold) (files since : FilesTold) : Type 0 where
  pub of_link : KeepsLink link later
  pub of_files : ReadsOnly files since
