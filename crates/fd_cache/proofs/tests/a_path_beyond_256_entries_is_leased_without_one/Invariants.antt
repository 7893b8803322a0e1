use Rattle.outside.specs.MemFolder.{folder_in}
use Rattle.fd_cache.proofs.tests.a_path_beyond_256_entries_is_leased_without_one.Given as goal

-- the folder is the one that these files make
abbrev pub ghosts-takes_all_entries : goal.ghosts-takes_all_entries
ghosts-takes_all_entries g a = record { folder = folder_in a.contents.items }
