-- To be believed: the replies of an application over the folder of the files, where that folder is told.
use Rattle.std.specs.Prelude.{Option, option_map}
use Rattle.outside.specs.Folder.{Folder}
use Rattle.warp_request.specs.Verdict.{Asked}
use Rattle.warp_response.specs.Reply.{Reply}
use Rattle.app_trait.specs.FolderReply.{folder_reply}
use Rattle.app_trait.specs.Moves.{Moves, RequestText}
use Rattle.app_trait.specs.ReplyTo.{reply_to}

-- a head, as an application sees it
abbrev pub request_of : Asked → RequestText
request_of a = record { method = a.method; target = a.target; minor = a.minor }

-- what is replied to each head
abbrev pub Replying : Type 0
Replying = Asked → Reply

-- an application with these moves, over this folder
pub record Serving : Type 0 where
  pub moves : Moves
  pub folder : Folder

-- its replies
unfoldable pub replies : Serving → Replying
replies serving a = reply_to serving.moves serving.folder (request_of a)

-- an application over the folder of the files, where that folder is told
abbrev pub serving_over : Moves → Option Folder → Option Serving
serving_over moves folder = option_map (λ f. record { moves = moves; folder = f }) folder

-- what is replied to each head with the files of this folder
unfoldable pub folder_replies : Folder → Replying
folder_replies folder a = folder_reply folder (request_of a)
