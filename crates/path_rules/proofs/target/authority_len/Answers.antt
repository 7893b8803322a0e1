use Rattle.path_rules.specs.Target.{ends_authority}
use Rattle.path_rules.proofs.Places.{first_or_length}
use Rattle.path_rules.proofs.target.authority_len.Goals as goal

pub returns-clause-is : goal.returns-clause-is
returns-clause-is c =
    rw c.unwrap_or.ensures
    (first_or_length ends_authority c.args.bytes.now c.memchr2.result c.memchr2.ensures)
