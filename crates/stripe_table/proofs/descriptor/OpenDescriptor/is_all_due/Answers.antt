use Rattle.std.proofs.Common.{sym, ap, ◌∙◌, arith}
use Rattle.std.specs.Prelude.{not}
use Rattle.stripe_table.specs.Descriptors.{is_for}
use Rattle.stripe_table.proofs.Lists.{any_at, none_more}
use Rattle.stripe_table.proofs.descriptor.OpenDescriptor.is_all_due.Goals as goal

pub returns-then-not-is_for : goal.returns-then-not-is_for
returns-then-not-is_for g c =
    ap not (sym (any_at (λ r. not (is_for c.args.event.now r)) c.args.self.now.waits
    c.loop-place.place c.in-Some.registration.now c.in-Some.ensures.there
    (ap not (sym c.is_for.ensures ∙ c.if-not-is_for.true))))

pub loop-place-preserved : goal.loop-place-preserved
loop-place-preserved g c =
    none_more (λ r. not (is_for c.args.event.now r)) c.args.self.now.waits c.loop-place.place
    _ c.in-Some.registration.now (omega arith) c.in-Some.ensures.there c.loop-place.invariant
    (ap not (sym c.is_for.ensures ∙ c.if-not-is_for.false))
