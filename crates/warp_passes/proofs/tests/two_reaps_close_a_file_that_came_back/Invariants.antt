use Rattle.outside.specs.MemFolder.{folder_in}
use Rattle.warp_passes.proofs.tests.two_reaps_close_a_file_that_came_back.Given as goal

-- the folder is the one that these files make
abbrev pub ghosts-reaps_what_came_back : goal.ghosts-reaps_what_came_back
ghosts-reaps_what_came_back g a = record { folder = folder_in a.contents.items }
