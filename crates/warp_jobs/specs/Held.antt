-- To be believed: what a connection's job holds, and what its type keeps of it.
use Rattle.std.specs.Prelude.{◌≡◌, ℕ, Option, None, IfSome}
use Rattle.reg_keys.specs.declared.opening.Opening.{Opening}
use Rattle.outside.specs.Causes.{LinkTold}
use Rattle.outside.specs.Folder.{Folder}
use Rattle.app_trait.specs.FolderMoves.{folder_move}
use Rattle.conn_loop.specs.ConnState.{ConnState, Represents, Counted}
use Rattle.timeout_mgr.specs.declared.view.WatchName.{WatchName}
use Rattle.warp_books.specs.declared.finish.Finish.TheVariants.{Ended}
use Rattle.warp_books.specs.Truth.{IsTrueTo, finished_of, folder_serving}

-- what a connection's job holds
pub record Held : Type 0 where
  pub opening : Opening
  -- what its link tells
  pub link : LinkTold
  -- how far it was brought
  pub conn : ConnState
  -- the watch over it
  pub watch : WatchName
  -- the number of its next registration, the first one's being zero
  pub number : ℕ

-- What the type of a connection's job keeps: it stands for what its link has taken and sent, its
-- counts are the link's, the link had to be waited for as often as it was registered again, and
-- where it is over, its end is true
pub record IsHeld (folder : Option Folder) (o : Opening) (link : LinkTold) (c : ConnState)
    (n : ℕ) : Type 0 where
  pub represents : Represents folder_move folder c link
  pub counted : Counted c link
  pub waits : c.waits ≡ n
  pub ended : IfSome c.over (λ end. IsTrueTo (folder_serving folder) (finished_of o link c (Ended end)))
