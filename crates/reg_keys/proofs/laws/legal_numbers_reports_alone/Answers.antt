use Rattle.reg_keys.proofs.ReportNumbers.{numbers_reports_alone}
use Rattle.reg_keys.proofs.laws.legal_numbers_reports_alone.Goals as goal

pub returns : goal.returns
returns c = λ s c past low l. numbers_reports_alone s c low past l
