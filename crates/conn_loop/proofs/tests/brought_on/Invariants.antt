use Rattle.app_trait.specs.FolderMoves.{folder_move}
use Rattle.conn_loop.specs.ConnState.{Represents}
use Rattle.conn_loop.specs.Steps.{to_go}
use Rattle.conn_loop.proofs.tests.brought_on.Given as goal

abbrev pub invariant-files : goal.invariant-files
invariant-files g l = Represents folder_move g.F.Files.folder l.conn (g.L.Link.told l.link)

abbrev pub decreases-files : goal.decreases-files
decreases-files g l = to_go l.conn
