-- To be believed: a folder, which has for each path the bytes and the time of the file that stands there.
use Rattle.std.specs.Prelude.{◌≡◌, ℕ, List, length, Option, IfSome, IsSomeAnd}
use Rattle.std.specs.Ordering.{nat_cmp}
use Rattle.std.specs.Cmp.Lexicographic.{slice_cmp}
use Rattle.std.specs.FinMap as finite

-- a file's bytes and its time in whole seconds since 1970
abbrev pub Content : Type 0
Content = List ℕ × ℕ

-- a finite map from paths to contents
abbrev pub Folder : Type 0
Folder = finite.FinMap (slice_cmp nat_cmp) Content

-- the file at a path
abbrev pub file_at : Folder → List ℕ → Option Content
file_at folder path = finite.get folder path

-- the folder that has these files; of two at one path the first
abbrev pub folder_of : List (List ℕ × Content) → Folder
folder_of entries = finite.from_entries entries

-- where the folder is told, it has a file of this size and time at the path
abbrev pub HasFile : Option Folder → List ℕ → ℕ → ℕ → Type 0
HasFile folder path size mtime =
    IfSome folder
    (λ f. IsSomeAnd (file_at f path) (λ content. (size ≡ length content.0) × (mtime ≡ content.1)))
