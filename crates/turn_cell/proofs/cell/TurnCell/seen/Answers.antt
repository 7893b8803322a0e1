use Rattle.std.proofs.Common.{rules}
use Rattle.turn_cell.proofs.Keeps.{looks}
use Rattle.turn_cell.proofs.cell.TurnCell.seen.Goals as goal

pub load-requires : goal.load-requires
load-requires g c =
    (search rules, search rules, looks _ _ _ _ _ _ c.args.pass.now.rests.0 c.args.pass.now.rests.3)
