use Rattle.conn_loop.specs.Causes.{Clocked}
use Rattle.app_trait.specs.FolderMoves.{folder_move}
use Rattle.conn_loop.specs.ConnState.{Represents}
use Rattle.conn_loop.specs.Steps.{to_go}
use Rattle.warp_commands.proofs.BroughtLemmas.{Goes}
use Rattle.warp_commands.proofs.connection.brought_on.Given as goal

abbrev pub invariant-files : goal.invariant-files
invariant-files g l = record {
  stands : Represents folder_move g.F.Files.folder l.conn (g.L.Link.told l.link);
  clocked : Clocked l.fn.conn l.conn (g.C.Clock.told l.fn.clock) (g.C.Clock.told l.clock);
  goes : Goes l.conn (g.L.Link.told l.fn.link) (g.L.Link.told l.link) (g.F.Files.told l.fn.files)
      (g.F.Files.told l.files);
}

abbrev pub decreases-files : goal.decreases-files
decreases-files g l = to_go l.conn
