use Rattle.std.proofs.Common.{sym}
use Rattle.std.proofs.lemmas.Bool.{eq-eqb}
use Rattle.stripe_table.specs.Descriptors.{waits_as}
use Rattle.stripe_table.proofs.Lists.{any_at}
use Rattle.stripe_table.proofs.descriptor.OpenDescriptor.has_key.Goals as goal

pub returns-then-registration-key : goal.returns-then-registration-key
returns-then-registration-key g c =
    sym (any_at (waits_as c.args.key) c.args.self.now.waits c.loop-place.place c.in-Some.registration.now
    c.in-Some.ensures.there (eq-eqb c.in-Some.registration.now.key c.args.key c.if-registration-key.true))
