use Rattle.outside.specs.MemFolder.{folder_in}
use Rattle.conn_loop.proofs.tests.two_runs_over_files.Given as goal

-- the folder is the one that these files make
abbrev pub ghosts-two_runs : goal.ghosts-two_runs
ghosts-two_runs a = record { folder = folder_in a.contents.items }
