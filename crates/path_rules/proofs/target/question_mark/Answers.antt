use Rattle.path_rules.specs.Target.{is_question_mark}
use Rattle.path_rules.proofs.Places.{first_or_length}
use Rattle.path_rules.proofs.target.question_mark.Goals as goal

pub returns-clause-is : goal.returns-clause-is
returns-clause-is c =
    rw c.unwrap_or.ensures
    (first_or_length is_question_mark c.args.bytes.now c.memchr.result c.memchr.ensures)
