use Rattle.app_trait.specs.FolderLaws.{folder_ends}
use Rattle.app_trait.specs.FolderMoves.{folder_move}
use Rattle.conn_loop.proofs.tests.brought_on.Goals as goal

pub files-preserved : goal.files-preserved
files-preserved g c =
    let link = g.L.Link.told c.advance-step.new.link in
    c.supply.ensures.represents folder_move link folder_ends
    (c.spent_lease.ensures.represents folder_move link c.in-WantFile.ensures.represents)
