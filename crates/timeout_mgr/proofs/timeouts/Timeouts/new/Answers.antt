use Rattle.std.proofs.Common.{rules}
use Rattle.timeout_mgr.proofs.Passes.{starts}
use Rattle.timeout_mgr.proofs.timeouts.Timeouts.new.Goals as goal

pub vacant-requires : goal.vacant-requires
vacant-requires c = starts (record { number = 0; fd = 0 }) 4096 _ (search rules)
