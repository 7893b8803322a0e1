-- To be believed: the files of a folder in memory, by their paths.
use Rattle.std.specs.Prelude.{◌≡◌, ◌<◌, ◌-◌, length, min, IsSomeAnd, slice_get, ℕ, List, [], ◌∷◌, Option}
use Rattle.std.specs.Prelude.{Some, None, bytes_eq, string_bytes, if◌then◌else◌, map}
use Rattle.outside.specs.declared.mem_files.MemFile.{MemFile}
use Rattle.outside.specs.declared.files.PartOut.{PartOut}
use Rattle.outside.specs.declared.files.PartOut.TheVariants as Parts
use Rattle.outside.specs.FileCauses.{PartWithin, ReadsFrom}
use Rattle.outside.specs.Folder.{Content, Folder, file_at, folder_of}

-- the folder that has these files; of two at one path the first
abbrev pub folder_in : List MemFile → Folder
folder_in files = folder_of (map (λ file. (string_bytes file.path, (file.bytes.items, file.mtime))) files)

-- the first file with this path
abbrev pub entry_at : List MemFile → List ℕ → Option Content
entry_at [] path = None
entry_at (file ∷ files) path =
    if bytes_eq path (string_bytes file.path) then Some (file.bytes.items, file.mtime)
    else entry_at files path

-- where the first file with this path stands
abbrev pub IsPlaceOf : List MemFile → List ℕ → Option ℕ → Type 0
IsPlaceOf files path None = entry_at files path ≡ None
IsPlaceOf files path (Some i) =
    (i < length files)
    × ((file : MemFile) × (slice_get files i ≡ Some file)
    × (entry_at files path ≡ Some (file.bytes.items, file.mtime)))

-- as many bytes as are there from a place on and fit
abbrev pub FillsBuffer : List ℕ → ℕ → List ℕ → PartOut → Type 0
FillsBuffer bytes at buf (Parts.Got n) = n ≡ min (length bytes - at) (length buf)
FillsBuffer bytes at buf Parts.Failed = Unit {0}

-- the folder's bytes for this path from a place on, as many as are there and fit
pub record GivesPart (folder : Folder) (path : List ℕ) (at : ℕ) (buf : List ℕ)
    (result : PartOut) : Type 0 where
  pub within : PartWithin result buf
  pub reads : ReadsFrom folder path at buf result
  pub fills : IsSomeAnd (file_at folder path) (λ content. FillsBuffer content.0 at buf result)
