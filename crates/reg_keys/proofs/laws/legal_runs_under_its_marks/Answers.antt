use Rattle.reg_keys.proofs.RunMarks.{runs_under_its_marks}
use Rattle.reg_keys.proofs.laws.legal_runs_under_its_marks.Goals as goal

pub returns : goal.returns
returns c = runs_under_its_marks
