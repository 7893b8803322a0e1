-- A folder in memory, place by place.
use Rattle.std.proofs.Common.{◌≡◌, ℕ, ◌+◌, ◌<◌, Bool, true, cond, List, [], ◌∷◌, length, drop, get_or, Option}
use Rattle.std.proofs.Common.{Some, refl, sym, ap, ◌∙◌}
use Rattle.std.specs.Prelude.{bytes_eq, string_bytes, map}
use Rattle.std.proofs.lemmas.List.{drop_more}
use Rattle.outside.specs.declared.mem_files.MemFile.{MemFile}
use Rattle.std.specs.Ordering.{nat_cmp}
use Rattle.std.specs.Cmp.Lexicographic.{slice_cmp, nat_list_cmp_total}
use Rattle.std.proofs.lemmas.Map.Text.{is_eq-slice_cmp}
use Rattle.std.specs.FinMap.{find, get-from_entries}
use Rattle.outside.specs.Folder.{Content, file_at}
use Rattle.outside.specs.MemFolder.{entry_at, folder_in}

-- the first file with a path is this one, or it is after it
pub entry_step : (files : List MemFile) (i : ℕ) (d : MemFile) (path : List ℕ) → i < length files
    → entry_at (drop i files) path ≡ cond (bytes_eq path (string_bytes (get_or files i d).path))
    (Some ((get_or files i d).bytes.items, (get_or files i d).mtime)) (entry_at (drop (i + 1) files) path)
entry_step files i d path inside = ap (λ (t : List MemFile). entry_at t path) (drop_more files i d inside)

-- the first file with a path is this one where it has the path and none before it has
pub entry_found : (files : List MemFile) (i : ℕ) (file : MemFile) (path : List ℕ)
    → i < length files → file ≡ get_or files i file
    → bytes_eq path (string_bytes file.path) ≡ true → entry_at (drop i files) path ≡ entry_at files path
    → entry_at files path ≡ Some (file.bytes.items, file.mtime)
entry_found files i file path inside is same at =
    sym at ∙ entry_step files i file path inside ∙ rw (← is) (rw same refl)

entries_of : List MemFile → List (List ℕ × Content)
entries_of files = map (λ file. (string_bytes file.path, (file.bytes.items, file.mtime))) files

find_entry : (files : List MemFile) (path : List ℕ)
    → find (slice_cmp nat_cmp) path (entries_of files) ≡ entry_at files path
unfolding entries_of
find_entry [] path = refl
find_entry (file ∷ files) path =
    ap (λ (t : Bool).
    cond t (Some (file.bytes.items, file.mtime)) (find (slice_cmp nat_cmp) path (entries_of files)))
    (is_eq-slice_cmp path (string_bytes file.path))
    ∙ ap (λ (o : Option Content).
    cond (bytes_eq path (string_bytes file.path)) (Some (file.bytes.items, file.mtime)) o)
    (find_entry files path)

-- the folder that files make has at a path the first of them with this path
pub entry_at-folder_in : (files : List MemFile) (path : List ℕ)
    → entry_at files path ≡ file_at (folder_in files) path
unfolding entries_of
entry_at-folder_in files path =
    sym (get-from_entries nat_list_cmp_total (entries_of files) path ∙ find_entry files path)
