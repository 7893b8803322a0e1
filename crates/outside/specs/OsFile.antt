-- To be believed: what files of the system give of a small file, whose content is kept from the
-- moment at which it was opened.
use Rattle.std.specs.Prelude.{◌≡◌, ◌≤◌, ◌-◌, ℕ, List, take, drop, length, min, Option, IfSome, option_map}
use Rattle.outside.specs.declared.files.Opened.{Opened}
use Rattle.outside.specs.declared.files.FindOut.{FindOut}
use Rattle.outside.specs.declared.files.FindOut.TheVariants.{Found}
use Rattle.outside.specs.declared.files.FindOut.TheVariants as Finds
use Rattle.outside.specs.declared.files.PartOut.{PartOut}
use Rattle.outside.specs.declared.files.PartOut.TheVariants as Parts
use Rattle.outside.specs.declared.os_file.OsFile.{OsFile}

-- the bytes that are kept of a file, where any are
abbrev pub kept_of : {X : Type 0} → OsFile X → Option (List ℕ)
kept_of file = option_map (λ bytes. bytes.items) file.content

-- a file whose content is kept has the size of this content, which is at most 16,384
abbrev pub HasKeptSize : {X : Type 0} → Opened (OsFile X) → Type 0
HasKeptSize opened =
    IfSome (kept_of opened.file) (λ kept. (opened.size ≡ length kept) × (opened.size ≤ 16384))

-- the same of what a look found
abbrev pub FindsKept : {X : Type 0} → FindOut (OsFile X) → Type 0
FindsKept (Found opened) = HasKeptSize opened
FindsKept Finds.Absent = Unit {0}
FindsKept Finds.Failed = Unit {0}
FindsKept Finds.NoMemory = Unit {0}

-- a read gives the kept bytes from a place on, as many as are there and fit, and fails
-- only after the last of them
abbrev pub GivesKept : ℕ → List ℕ → PartOut → List ℕ → Type 0
GivesKept at buf (Parts.Got n) kept =
    (n ≡ min (length kept - at) (length buf)) × (take n buf ≡ take n (drop at kept))
GivesKept at buf Parts.Failed kept = length kept ≤ at
