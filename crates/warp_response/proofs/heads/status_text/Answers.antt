use Rattle.std.proofs.Common.{refl}
use Rattle.std.specs.Fmt.{digits}
use Rattle.warp_response.specs.Head.{status_line}
use Rattle.warp_response.proofs.heads.status_text.Goals as goal

pub returns-in-200-clause-is : goal.returns-in-200-clause-is
unfolding status_line digits
returns-in-200-clause-is c = rw c.in-200.is refl

pub returns-in-301-clause-is : goal.returns-in-301-clause-is
unfolding status_line digits
returns-in-301-clause-is c = rw c.in-301.is refl

pub returns-in-400-clause-is : goal.returns-in-400-clause-is
unfolding status_line digits
returns-in-400-clause-is c = rw c.in-400.is refl

pub returns-in-404-clause-is : goal.returns-in-404-clause-is
unfolding status_line digits
returns-in-404-clause-is c = rw c.in-404.is refl

pub returns-in-405-clause-is : goal.returns-in-405-clause-is
unfolding status_line digits
returns-in-405-clause-is c = rw c.in-405.is refl

pub returns-in-413-clause-is : goal.returns-in-413-clause-is
unfolding status_line digits
returns-in-413-clause-is c = rw c.in-413.is refl

pub returns-in-414-clause-is : goal.returns-in-414-clause-is
unfolding status_line digits
returns-in-414-clause-is c = rw c.in-414.is refl

pub returns-in-417-clause-is : goal.returns-in-417-clause-is
unfolding status_line digits
returns-in-417-clause-is c = rw c.in-417.is refl

pub returns-in-431-clause-is : goal.returns-in-431-clause-is
unfolding status_line digits
returns-in-431-clause-is c = rw c.in-431.is refl

pub returns-in-501-clause-is : goal.returns-in-501-clause-is
unfolding status_line digits
returns-in-501-clause-is c = rw c.in-501.is refl
