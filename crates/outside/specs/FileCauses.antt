-- To be believed: what contracts know of files, and what each call makes of it.
use Rattle.std.specs.Prelude.{◌≡◌, ℕ, ◌≤◌, Bool, List, [], ◌∷◌, ◌++◌, take, drop, length, Option, Some, None}
use Rattle.std.specs.Prelude.{IsSomeAnd, option_map}
use Rattle.outside.specs.declared.files.RootOut.{RootOut}
use Rattle.outside.specs.declared.files.RootOut.TheVariants as Roots
use Rattle.outside.specs.declared.files.FindOut.{FindOut}
use Rattle.outside.specs.declared.files.FindOut.TheVariants.{Found}
use Rattle.outside.specs.declared.files.FindOut.TheVariants as Finds
use Rattle.outside.specs.declared.files.PartOut.{PartOut}
use Rattle.outside.specs.declared.files.PartOut.TheVariants as Parts
use Rattle.outside.specs.Counts.{Rises, more_by_one}
use Rattle.outside.specs.Folder.{Folder, file_at}

-- what contracts know of files, besides the folder that their type has
pub record FilesTold : Type 0 where
  -- the text and the answer of the last `root` that didn't answer `NoMemory`
  pub rooted : Option (List ℕ × RootOut)
  -- how many calls of `find` there were
  pub finds : ℕ
  -- the paths that `find` looked for, in order, where they are told
  pub looked : Option (List (List ℕ))
  -- how many faults there were
  pub faults : ℕ
  -- whether no call ever fails
  pub firm : Bool

-- the text and the answer of the last `root` are kept, unless it was want of memory
abbrev pub NotesRoot : Option (List ℕ × RootOut) → Option (List ℕ × RootOut) → List ℕ → RootOut → Type 0
NotesRoot old new text Roots.NoMemory = new ≡ old
NotesRoot old new text result = new ≡ Some (text, result)

-- a `root` that failed raised the count of faults, which never falls
abbrev pub RootFaults : RootOut → ℕ → ℕ → Type 0
RootFaults Roots.Failed old new = (old ≤ new) × Rises old new
RootFaults _ old new = old ≤ new

-- what was found is what the folder has at this path: its size and its time, or nothing
abbrev pub FindsIn : {X : Type 0} → Folder → List ℕ → FindOut X → Type 0
FindsIn folder path (Found o) = IsSomeAnd (file_at folder path) (λ f. (o.size ≡ length f.0) × (o.mtime ≡ f.1))
FindsIn folder path Finds.Absent = file_at folder path ≡ None
FindsIn folder path Finds.Failed = Unit {0}
FindsIn folder path Finds.NoMemory = Unit {0}

-- a file that was found was found at this path
abbrev pub FoundAt : {X : Type 0} → (X → List ℕ) → List ℕ → FindOut X → Type 0
FoundAt path_of path (Found o) = path_of o.file ≡ path
FoundAt path_of path _ = Unit {0}

-- a `find` that failed raised the count of faults, which never falls
abbrev pub FindFaults : {X : Type 0} → FindOut X → ℕ → ℕ → Type 0
FindFaults Finds.Failed old new = (old ≤ new) × Rises old new
FindFaults _ old new = old ≤ new

-- the paths that were looked for, after this one was: at want of memory it wasn't
abbrev pub looked_after : {X : Type 0} → FindOut X → List ℕ → Option (List (List ℕ)) → Option (List (List ℕ))
looked_after Finds.NoMemory path looked = looked
looked_after (Found o) path looked = option_map (λ paths. paths ++ path ∷ []) looked
looked_after Finds.Absent path looked = option_map (λ paths. paths ++ path ∷ []) looked
looked_after Finds.Failed path looked = option_map (λ paths. paths ++ path ∷ []) looked

-- the bytes at the front of the buffer are those that the folder has for this path from a place on
abbrev pub ReadsFrom : Folder → List ℕ → ℕ → List ℕ → PartOut → Type 0
ReadsFrom folder path at buf (Parts.Got n) =
    IsSomeAnd (file_at folder path) (λ f. take n buf ≡ take n (drop at f.0))
ReadsFrom folder path at buf Parts.Failed = Unit {0}

-- a part that is given has at least one byte, within the buffer
abbrev pub PartWithin : PartOut → List ℕ → Type 0
PartWithin (Parts.Got n) buf = (1 ≤ n) × (n ≤ length buf)
PartWithin Parts.Failed buf = Unit {0}

-- a `read_at` that failed raised the count of faults, which never falls
abbrev pub PartFaults : PartOut → ℕ → ℕ → Type 0
PartFaults Parts.Failed old new = (old ≤ new) × Rises old new
PartFaults (Parts.Got n) old new = old ≤ new

-- what a look for the root makes of files
pub record AskedRoot (result : RootOut) (text : List ℕ) (old new : FilesTold) : Type 0 where
  pub notes : NotesRoot old.rooted new.rooted text result
  pub faulted : RootFaults result old.faults new.faults
  pub same : new ≡ record old { rooted = new.rooted; faults = new.faults }

-- what a look for a file makes of files
pub record Looked {X : Type 0} (result : FindOut X) (path : List ℕ) (old new : FilesTold) : Type 0 where
  pub counted : new.finds ≡ more_by_one old.finds
  pub noted : new.looked ≡ looked_after result path old.looked
  pub faulted : FindFaults result old.faults new.faults
  pub same : new ≡ record old { finds = new.finds; looked = new.looked; faults = new.faults }

-- what a read of a part of a file makes of files
pub record ReadPart (result : PartOut) (old new : FilesTold) : Type 0 where
  pub faulted : PartFaults result old.faults new.faults
  pub same : new ≡ record old { faults = new.faults }

-- what looks and reads leave of files: the root, whether they ever fail, and a count of
-- faults that never falls
pub record KeepsFiles (old new : FilesTold) : Type 0 where
  pub later : old.faults ≤ new.faults
  pub rooted : new.rooted ≡ old.rooted
  pub firm : new.firm ≡ old.firm
