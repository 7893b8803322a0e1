use Rattle.event_mgr.proofs.Shared.{first_known, split_known}
use Rattle.event_mgr.proofs.laws.manager_passes_are_split_cell_by_cell.Goals as goal

pub returns-clause-first : goal.returns-clause-first
returns-clause-first c = λ v f k. first_known v f k

pub returns-clause-split : goal.returns-clause-split
returns-clause-split c = λ v w o l s k. split_known v w o l s k
