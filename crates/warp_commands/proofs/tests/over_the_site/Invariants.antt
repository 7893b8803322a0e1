use Rattle.outside.specs.MemFolder.{folder_in}
use Rattle.warp_commands.proofs.tests.over_the_site.Given as goal

-- the folder is the one that these files make
abbrev pub ghosts-carry_out : goal.ghosts-carry_out
ghosts-carry_out a = record { folder = folder_in a.contents.items }
