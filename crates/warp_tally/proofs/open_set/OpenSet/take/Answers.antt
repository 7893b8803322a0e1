use Rattle.std.proofs.Common.{◌∙◌, ap, false}
use Rattle.std.specs.Prelude.{cond}
use Rattle.reg_keys.specs.Tests.{same}
use Rattle.warp_tally.specs.OpenSet.{holds}
use Rattle.warp_tally.proofs.Keys.{same_key, set_false}
use Rattle.warp_tally.proofs.open_set.OpenSet.take.Goals as goal

pub returns-clause-taken : goal.returns-clause-taken
returns-clause-taken c p = c.remove.ensures.updates.0 (p.number, p.fd)
    ∙ (ap (λ b. cond b false (holds c.args.self.now p)) (same_key c.args.o p)
    ∙ set_false (same p c.args.o) (holds c.args.self.now p))
