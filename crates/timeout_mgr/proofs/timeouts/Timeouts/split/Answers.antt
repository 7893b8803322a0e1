use Rattle.std.proofs.Common.{arith}
use Rattle.timeout_mgr.proofs.Passes.{splits}
use Rattle.timeout_mgr.proofs.timeouts.Timeouts.split.Goals as goal

pub split_seat-seat-requires : goal.split_seat-seat-requires
split_seat-seat-requires c = let sized = c.args.self.now.sized in (c.requires, omega arith, splits _ _)
