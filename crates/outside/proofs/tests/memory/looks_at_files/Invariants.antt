use Rattle.std.proofs.Common.{◌≤◌, IsSomeAnd, length}
use Rattle.std.specs.Prelude.{string_bytes}
use Rattle.outside.specs.Folder.{file_at}
use Rattle.outside.proofs.tests.memory.looks_at_files.Given as goal

-- the folder has five bytes for the file
abbrev pub invariant-loop-at : goal.invariant-loop-at
invariant-loop-at g l =
    IsSomeAnd (file_at g.K.Place.folder (string_bytes l.opened.file.path)) (λ content. 5 ≤ length content.0)
