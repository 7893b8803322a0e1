use Rattle.std.proofs.Common.{refl, sym, subst}
use Rattle.stripe_table.specs.Ascending.{Ascends}
use Rattle.stripe_table.specs.Flags.{key_of, settled}
use Rattle.stripe_table.proofs.Lists.{ascends_changed}
use Rattle.stripe_table.proofs.firing.tell.Goals as goal

pub returns-then-is_flag-clause-ascends : goal.returns-then-is_flag-clause-ascends
returns-then-is_flag-clause-ascends g c a =
    subst (Ascends key_of) (sym (c.settle.ensures a))
    (ascends_changed key_of (settled _ c.args.state) (λ f. refl) _ a)
