use Rattle.std.proofs.Common.{List, [], ◌∷◌}
use Rattle.reg_keys.specs.declared.entry.Entry.{Entry}
use Rattle.stripe_table.specs.Represents.{ShowsPast, Step}
use Rattle.stripe_table.specs.declared.stripe.Stripe.{Stripe}
use Rattle.stripe_tests.specs.declared.tests.Job.{Job}
use Rattle.stripe_tests.proofs.tests.perform.Goals as goal

-- a call leaves a past that the stripe fits
past_after : (past : List Entry) (e : Entry) (old new : Stripe Job) → Step {T = Job} (λ _. []) past e old new
    → (x : List Entry) × ShowsPast {T = Job} (λ _. []) x new
past_after past e old new step = (e ∷ past, step.fits)

pub returns-in-Open-clause-fits : goal.returns-in-Open-clause-fits
returns-in-Open-clause-fits c = let p = c.requires.fits in past_after p.0 _ _ _ (c.open.ensures p.0 p.1)

pub returns-in-Report-clause-fits : goal.returns-in-Report-clause-fits
returns-in-Report-clause-fits c = let p = c.requires.fits in past_after p.0 _ _ _ (c.report.ensures p.0 p.1)

pub returns-in-Register-clause-fits : goal.returns-in-Register-clause-fits
returns-in-Register-clause-fits c =
    let p = c.requires.fits in
    past_after p.0 _ _ _ (c.register.ensures.step p.0 p.1)

pub returns-in-Withdraw-clause-fits : goal.returns-in-Withdraw-clause-fits
returns-in-Withdraw-clause-fits c =
    let p = c.requires.fits in
    past_after p.0 _ _ _ (c.withdraw.ensures p.0 p.1)

pub returns-in-Ask-clause-fits : goal.returns-in-Ask-clause-fits
returns-in-Ask-clause-fits c = let p = c.requires.fits in past_after p.0 _ _ _ (c.ask.ensures p.0 p.1)

pub returns-in-Dispatch-clause-fits : goal.returns-in-Dispatch-clause-fits
returns-in-Dispatch-clause-fits c =
    let p = c.requires.fits in
    past_after p.0 _ _ _ (c.dispatch.ensures.step p.0 p.1)

pub returns-in-Close-clause-fits : goal.returns-in-Close-clause-fits
returns-in-Close-clause-fits c = let p = c.requires.fits in past_after p.0 _ _ _ (c.close.ensures p.0 p.1)
