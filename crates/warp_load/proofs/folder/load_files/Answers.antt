use Rattle.std.proofs.Common.{◌≡◌, ℕ, ◌∷◌, ◌++◌, [], List, codes, map, ap}
use Rattle.outside.specs.declared.mem_files.MemFile.{MemFile}
use Rattle.outside.specs.Folder.{Content, folder_of}
use Rattle.warp_load.specs.LoadFolder.{file_entry, load_folder, load_moment, rounds}
use Rattle.warp_load.proofs.folder.load_files.Goals as goal

-- a file more, with these bytes
one_more : (before shown : List (List ℕ × Content)) (files : List MemFile) (path bytes content : List ℕ)
    → map file_entry files ≡ before ++ (path, (bytes, load_moment)) ∷ [] → before ≡ shown → bytes ≡ content
    → map file_entry files ≡ shown ++ (path, (content, load_moment)) ∷ []
one_more before shown files path bytes content added same is = cc

pub returns : goal.returns
unfolding load_folder
returns c =
    let none : map file_entry c.in_ok-files.files.items ≡ [] =
    ap (λ (fs : List MemFile). map file_entry fs) c.in_ok-files.ensures.items in
    let one = one_more _ [] _ (codes "index.html") _
    (codes "hi\n") c.in_ok-add_file.ensures.added none c.in_ok-from_slice.ensures.items in
    let two = one_more _ _ _ (codes "a.txt") _
    (rounds 1000 97 26) c.in_ok-add_file-2.ensures.added one c.in_ok-rounds_of.ensures.bytes in
    let three = one_more _ _ _ (codes "big.bin") _
    (rounds 40000 0 251) c.in_ok-add_file-3.ensures.added two c.in_ok-rounds_of-2.ensures.bytes in
    let four = one_more _ _ _ (codes "sub/index.html") _
    (codes "sub\n") c.in_ok-add_file-4.ensures.added three c.in_ok-from_slice-2.ensures.items in
    record { folder = ap (λ (es : List (List ℕ × Content)). folder_of es) four }
