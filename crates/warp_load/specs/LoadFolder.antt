-- To be believed: the folder of the load, four files.
use Rattle.std.specs.Prelude.{ℕ, ◌+◌, ◌%◌, List, [], ◌∷◌, codes, map, string_bytes}
use Rattle.std.specs.List.{range_with_len}
use Rattle.outside.specs.declared.mem_files.MemFile.{MemFile}
use Rattle.outside.specs.Folder.{Content, Folder, folder_of}

-- when each file was changed last, and each moment of the clock: 1994-11-06 08:49:37 UTC
abbrev pub load_moment : ℕ
load_moment = 784111777

-- bytes that go round: byte k is `from + k % period`
unfoldable pub rounds : (count from period : ℕ) → List ℕ
rounds count from period = map (λ k. from + k % period) (range_with_len 0 count)

-- each file, with its path
abbrev pub load_entries : List (List ℕ × Content)
load_entries =
    (codes "index.html", (codes "hi\n", load_moment))
    ∷ (codes "a.txt", (rounds 1000 97 26, load_moment))
    ∷ (codes "big.bin", (rounds 40000 0 251, load_moment))
    ∷ (codes "sub/index.html", (codes "sub\n", load_moment))
    ∷ []

-- the folder that has these files
unfoldable pub load_folder : Folder
load_folder = folder_of load_entries

-- a file with its path
abbrev pub file_entry : MemFile → List ℕ × Content
file_entry file = (string_bytes file.path, (file.bytes.items, file.mtime))
