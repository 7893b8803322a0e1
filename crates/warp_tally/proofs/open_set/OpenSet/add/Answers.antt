use Rattle.std.proofs.Common.{◌∙◌, ap, true}
use Rattle.std.specs.Prelude.{cond}
use Rattle.reg_keys.specs.Tests.{same}
use Rattle.warp_tally.specs.OpenSet.{holds}
use Rattle.warp_tally.proofs.Keys.{same_key, set_true}
use Rattle.warp_tally.proofs.open_set.OpenSet.add.Goals as goal

pub returns-in-Ok-clause-added : goal.returns-in-Ok-clause-added
returns-in-Ok-clause-added c p = c.in-Ok.ensures.updates.0 (p.number, p.fd)
    ∙ (ap (λ b. cond b true (holds c.args.self.now p)) (same_key c.args.o p)
    ∙ set_true (same p c.args.o) (holds c.args.self.now p))
