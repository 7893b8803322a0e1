use Rattle.stripe_table.proofs.Listed.{if_none, nowhere}
use Rattle.stripe_table.proofs.stripe.Stripe.holder_of.Goals as goal

pub returns-clause-absent : goal.returns-clause-absent
returns-clause-absent g c =
    if_none c.holder_among-2.result
    (λ second r. nowhere c.args.self.now.descriptors.items c.args.key c.requires
    (c.in_default.ensures.absent r) (second r))
    c.holder_among-2.ensures.absent
