use Rattle.warp_tally.proofs.Pasts.{stands_last, room_for}
use Rattle.warp_tally.proofs.tally.TallyPart.apply.Goals as goal

pub count-counted-requires : goal.count-counted-requires
count-counted-requires c = let s = c.requires.short in room_for s.0 _ s.1 s.2

pub returns-clause-step : goal.returns-clause-step
returns-clause-step c h seat k = stands_last h seat _ _ _ _ _ k c.count-counted.ensures c.reply.ensures
