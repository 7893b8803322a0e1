-- To be believed: why each status comes, and what a command leaves as it was.
use Rattle.std.specs.Prelude.{◌≡◌, ◌≢◌, ◌⊎◌, ◌↔◌, ℕ, ◌≤◌, List, [], ◌∷◌, ◌++◌, Option, Some, None, IsSomeAnd}
use Rattle.std.specs.Prelude.{option_map}
use Rattle.outside.specs.Causes.{KeepsLink, LinkTold}
use Rattle.outside.specs.Counts.{Counts, Rises, more_by_one}
use Rattle.outside.specs.FileCauses.{FilesTold}
use Rattle.outside.specs.Moments.{ClockTold}
use Rattle.outside.specs.declared.files.RootOut.TheVariants.{Present, Absent}
use Rattle.app_trait.specs.Below.{LiesBelow}
use Rattle.warp_commands.specs.declared.status.Status.{Status}
use Rattle.warp_commands.specs.declared.status.Status.TheVariants.{Clean, Cut, Usage, ReadFault, WriteFault}
use Rattle.warp_commands.specs.declared.status.Status.TheVariants.{FileFault, NoMemory, NoSuchFolder}
use Rattle.warp_commands.specs.declared.status.Status.TheVariants.{PollFault, AcceptFault, Spent, OutFault}
use Rattle.warp_commands.specs.declared.status.Status.TheVariants.{CannotListen, NotReady, TurnedAway}
use Rattle.warp_commands.specs.Words.{Reading, connection, root_in}

-- one wait was counted, of a read
abbrev pub WaitsToRead : (before after : Counts) → Type 0
WaitsToRead before after = (after.reads ≡ more_by_one before.reads) × (after.writes ≡ before.writes)

-- one wait was counted, of a write
abbrev pub WaitsToWrite : (before after : Counts) → Type 0
WaitsToWrite before after = (after.writes ≡ more_by_one before.writes) × (after.reads ≡ before.reads)

-- one wait was counted, of a read or of a write
abbrev pub WaitsOnce : (before after : Counts) → Type 0
WaitsOnce before after = WaitsToRead before after ⊎ WaitsToWrite before after

-- a status that only a connection which was served comes to
abbrev pub WasServed : Status → Type 0
WasServed Clean = Unit {0}
WasServed Cut = Unit {0}
WasServed Usage = ⊥
WasServed ReadFault = Unit {0}
WasServed WriteFault = Unit {0}
WasServed FileFault = ⊥
WasServed NoMemory = ⊥
WasServed NoSuchFolder = ⊥
WasServed PollFault = ⊥
WasServed AcceptFault = ⊥
WasServed Spent = ⊥
WasServed OutFault = ⊥
WasServed CannotListen = ⊥
WasServed NotReady = Unit {0}
WasServed TurnedAway = ⊥

-- a status that one connection can come to, and no other than these
abbrev pub IsOfConnection : Status → Type 0
IsOfConnection Clean = Unit {0}
IsOfConnection Cut = Unit {0}
IsOfConnection Usage = Unit {0}
IsOfConnection ReadFault = Unit {0}
IsOfConnection WriteFault = Unit {0}
IsOfConnection FileFault = Unit {0}
IsOfConnection NoMemory = Unit {0}
IsOfConnection NoSuchFolder = Unit {0}
IsOfConnection PollFault = ⊥
IsOfConnection AcceptFault = ⊥
IsOfConnection Spent = ⊥
IsOfConnection OutFault = ⊥
IsOfConnection CannotListen = ⊥
IsOfConnection NotReady = Unit {0}
IsOfConnection TurnedAway = ⊥

-- no fault and no wait was counted
pub record NoneRose (link later : LinkTold) (files since : FilesTold) : Type 0 where
  pub reads : ¬ Rises link.faults.reads later.faults.reads
  pub writes : ¬ Rises link.faults.writes later.faults.writes
  pub read_waits : ¬ Rises link.waits.reads later.waits.reads
  pub write_waits : ¬ Rises link.waits.writes later.waits.writes
  pub file_faults : ¬ Rises files.faults since.faults

-- each of these paths lies below the folder
abbrev pub AreBelow : List (List ℕ) → Type 0
AreBelow [] = Unit {0}
AreBelow (path ∷ paths) = LiesBelow path × AreBelow paths

-- no path was looked for but such as lie below the folder
pub record LooksBelow (old new : Option (List (List ℕ))) : Type 0 where
  pub paths : List (List ℕ)
  pub below : AreBelow paths
  pub looked : new ≡ option_map (λ before. before ++ paths) old

-- what stays: the link's plan, whether the files ever fail, a clock that stands still, and counts that never
-- fall; and no path that was looked for leads out of the folder
pub record Stays (link later : LinkTold) (files since : FilesTold) (clock after : ClockTold) : Type 0 where
  pub of_link : KeepsLink link later
  pub counted : files.faults ≤ since.faults
  pub firm : since.firm ≡ files.firm
  pub looks : LooksBelow files.looked since.looked
  pub still : after.still ≡ clock.still

-- what a command leaves: what stays in any case; without a folder all of the link and of
-- the clock; without a command all
pub record Leaves (status : Status) (link later : LinkTold) (files since : FilesTold)
    (clock after : ClockTold) : Type 0 where
  pub stays : Stays link later files since clock after
  pub no_folder : status ≡ NoSuchFolder → (later ≡ link) × (after ≡ clock)
  pub no_command : status ≡ Usage → (later ≡ link) × (after ≡ clock) × (since ≡ files)

-- Why a status comes: by the words, by what the files answered for the root, and by the
-- counts of the very link and files.
pub record HasCause (status : Status) (words : Reading) (link later : LinkTold)
    (files since : FilesTold) : Type 0 where
  pub own : IsOfConnection status
  pub usage : (status ≡ Usage) ↔ (root_in words ≡ None)
  pub read_fault : status ≡ ReadFault → Rises link.faults.reads later.faults.reads
  pub write_fault : status ≡ WriteFault → Rises link.faults.writes later.faults.writes
  pub file_fault : status ≡ FileFault → Rises files.faults since.faults
  pub not_ready : status ≡ NotReady → WaitsOnce link.waits later.waits
  pub waits_told : status ≢ NotReady → later.waits ≡ link.waits
  pub names_root : (root : List ℕ) → words ≡ connection root → status ≢ NoMemory
      → IsSomeAnd since.rooted (λ r. r.0 ≡ root)
  pub no_folder : (root : List ℕ) → words ≡ connection root → status ≢ NoMemory
      → (status ≡ NoSuchFolder) ↔ (since.rooted ≡ Some (root, Absent))
  -- no root is served but one that is there
  pub served_there : (root : List ℕ) → words ≡ connection root → WasServed status
      → since.rooted ≡ Some (root, Present)
  -- with a command, a root and no fault or wait, all is answered, or memory was wanted
  pub complete : (root : List ℕ) → words ≡ connection root → since.rooted ≡ Some (root, Present)
      → NoneRose link later files since
      → (status ≡ Clean) ⊎ (status ≡ Cut) ⊎ (status ≡ NoMemory)

-- why a connection that was served ended as it did
pub record IsServeCause (status : Status) (link later : LinkTold) (files since : FilesTold) : Type 0 where
  pub own : IsOfConnection status
  pub was_read : status ≢ Usage
  pub was_there : status ≢ NoSuchFolder
  pub read_fault : status ≡ ReadFault → Rises link.faults.reads later.faults.reads
  pub write_fault : status ≡ WriteFault → Rises link.faults.writes later.faults.writes
  pub file_fault : status ≡ FileFault → Rises files.faults since.faults
  pub not_ready : status ≡ NotReady → WaitsOnce link.waits later.waits
  pub waits_told : status ≢ NotReady → later.waits ≡ link.waits
