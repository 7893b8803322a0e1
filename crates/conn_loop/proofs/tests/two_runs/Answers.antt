use Rattle.std.proofs.Common.{refl, sym, subst}
use Rattle.outside.specs.Causes.{IsFresh, LinkTold}
use Rattle.outside.specs.PieceLink.{told_of}
use Rattle.app_trait.specs.FolderMoves.{folder_move}
use Rattle.conn_loop.proofs.tests.two_runs.Goals as goal

pub brought_on-first-requires : goal.brought_on-first-requires
brought_on-first-requires g c =
    c.in_ok-conn.ensures.represents folder_move (told_of c.args.link)
    (subst (λ (l : LinkTold). IsFresh l) (sym c.requires.fresh)
    (record { nothing_taken = refl; nothing_sent = refl; not_ended = refl }))
