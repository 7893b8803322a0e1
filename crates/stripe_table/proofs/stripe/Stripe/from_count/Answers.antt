use Rattle.std.proofs.Common.{refl}
use Rattle.stripe_table.proofs.Parts.{stands_new}
use Rattle.stripe_table.proofs.stripe.Stripe.from_count.Goals as goal

pub returns : goal.returns
returns g c = (
  refl,
  refl,
  stands_new g.T.Load.tag _ c.requires.stripe refl c.in_ok-descriptors.ensures.0
      c.in_ok-descriptors.ensures.1 c.in_ok-flags.ensures,
)
