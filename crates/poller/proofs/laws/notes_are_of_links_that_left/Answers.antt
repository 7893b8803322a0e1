use Rattle.poller.proofs.Notes.{unnoted}
use Rattle.poller.proofs.laws.notes_are_of_links_that_left.Goals as goal

pub returns : goal.returns
returns c = unnoted
