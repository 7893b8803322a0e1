use Rattle.event_mgr.proofs.Bitmaps.{all_free}
use Rattle.event_mgr.proofs.free_numbers.FreeNumbers.all.Goals as goal

pub returns : goal.returns
returns c = all_free c.in_ok-words.words.items (c.in_ok-words.ensures.items_if_clones_equal (λ y e. e))
