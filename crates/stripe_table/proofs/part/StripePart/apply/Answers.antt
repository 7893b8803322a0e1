use Rattle.std.proofs.Common.{sym, subst, map, ◌++◌, ◌∷◌, []}
use Rattle.reg_keys.specs.Histories.{past_of}
use Rattle.stripe_table.specs.Calls.{entry_of}
use Rattle.stripe_table.specs.Represents.{Represents}
use Rattle.stripe_table.specs.declared.calls.Reply.TheVariants as Answer
use Rattle.stripe_table.proofs.Parts.{stands_more}
use Rattle.stripe_table.proofs.part.StripePart.apply.Goals as goal

pub returns-in-Register-clause-step : goal.returns-in-Register-clause-step
returns-in-Register-clause-step g c h seat s =
    subst (λ x. Represents g.T.Load.tag
    (past_of (map (λ e. e.1) (h ++ (seat, entry_of g.T.Load.tag x (Answer.Register c.register.result)) ∷ [])))
    c.register.new.self)
    (sym c.in-Register.is)
    (stands_more g.T.Load.tag c.args.self.now c.register.new.self h seat _ s
    (c.register.ensures.step (past_of (map (λ x. x.1) h)) s.fits))

pub returns-in-Dispatch-clause-step : goal.returns-in-Dispatch-clause-step
returns-in-Dispatch-clause-step g c h seat s =
    subst (λ x. Represents g.T.Load.tag
    (past_of (map (λ e. e.1) (h ++ (seat, entry_of g.T.Load.tag x (Answer.Dispatch c.dispatch.result)) ∷ [])))
    c.dispatch.new.self)
    (sym c.in-Dispatch.is)
    (stands_more g.T.Load.tag c.args.self.now c.dispatch.new.self h seat _ s
    (c.dispatch.ensures.step (past_of (map (λ x. x.1) h)) s.fits))
