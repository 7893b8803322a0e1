use Rattle.outside.specs.MemFolder.{folder_in}
use Rattle.fd_cache.proofs.tests.a_shared_cache_keeps_files_open_until_nobody_asked_for_them.Given as goal

-- the folder is the one that these files make
abbrev pub ghosts-shares_files : goal.ghosts-shares_files
ghosts-shares_files g a = record { folder = folder_in a.contents.items }
