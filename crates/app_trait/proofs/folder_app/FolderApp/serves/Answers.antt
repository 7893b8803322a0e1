use Rattle.app_trait.proofs.FolderLemmas.{folder_move-comes, head_of-HEAD, sent_bytes-HEAD}
use Rattle.app_trait.proofs.BelowLemmas.{folder_stays}
use Rattle.app_trait.proofs.folder_app.FolderApp.serves.Goals as goal

pub returns : goal.returns
returns c =
    record { table = folder_move-comes; head = head_of-HEAD; bytes = sent_bytes-HEAD; below = folder_stays }
