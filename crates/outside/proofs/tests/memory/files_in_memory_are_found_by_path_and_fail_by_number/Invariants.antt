use Rattle.outside.specs.MemFolder.{folder_in}
use Rattle.outside.proofs.tests.memory.files_in_memory_are_found_by_path_and_fail_by_number.Given as goal

-- the folder is the one that these files make
abbrev pub ghosts-looks_at_files : goal.ghosts-looks_at_files
ghosts-looks_at_files g a = record { folder = folder_in a.contents.items }
