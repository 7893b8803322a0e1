use Rattle.std.proofs.Common.{sym, ◌∙◌}
use Rattle.stripe_table.specs.Descriptors.{goes}
use Rattle.stripe_table.proofs.Lists.{any_at}
use Rattle.stripe_table.proofs.descriptor.OpenDescriptor.waits_for.Goals as goal

pub returns-then-is_same : goal.returns-then-is_same
returns-then-is_same g c =
    sym (any_at (goes c.args.dir) c.args.self.now.waits c.loop-place.place c.in-Some.registration.now
    c.in-Some.ensures.there (sym c.is_same.ensures ∙ c.if-is_same.true))
