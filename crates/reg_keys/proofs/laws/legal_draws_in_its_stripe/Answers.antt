use Rattle.reg_keys.proofs.InStripe.{draws_in_its_stripe}
use Rattle.reg_keys.proofs.laws.legal_draws_in_its_stripe.Goals as goal

pub returns : goal.returns
returns c = λ s c past low l. draws_in_its_stripe s c low past l
