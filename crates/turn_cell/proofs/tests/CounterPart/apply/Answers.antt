use Rattle.std.proofs.Common.{refl}
use Rattle.turn_cell.proofs.Counting.{count_snoc, counts_snoc}
use Rattle.turn_cell.proofs.tests.CounterPart.apply.Goals as goal

pub returns-clause-step : goal.returns-clause-step
returns-clause-step c h seat k = (count_snoc _ _ h _ k.0, counts_snoc _ _ h _ k.0 k.1 refl)
