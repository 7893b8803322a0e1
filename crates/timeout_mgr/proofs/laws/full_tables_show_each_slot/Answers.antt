use Rattle.timeout_mgr.proofs.Promises.{shows_all}
use Rattle.timeout_mgr.proofs.laws.full_tables_show_each_slot.Goals as goal

pub returns : goal.returns
returns c = shows_all
