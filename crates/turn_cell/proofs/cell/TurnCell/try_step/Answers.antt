use Rattle.std.proofs.Common.{rules, sym, ap, ◌∙◌, subst, ◌∷◌, Some}
use Rattle.turn_cell.proofs.Keeps.{takes_turn, gives_back}
use Rattle.turn_cell.proofs.Runs.{took, held_after}
use Rattle.turn_cell.proofs.Steps.{entered}
use Rattle.turn_cell.proofs.cell.TurnCell.try_step.Goals as goal

pub fetch_or-found-requires : goal.fetch_or-found-requires
fetch_or-found-requires g c =
    (search rules, search rules, takes_turn _ _ _ _ (search rules) _ _ c.args.pass.now.rests.3)

pub fetch_sub-requires : goal.fetch_sub-requires
fetch_sub-requires g c =
    let m = c.args.pass.now.seat.me in
    let at = c.args.pass.now.rests in
    let t = took g.P.Part.stands g.P.Part.name m c.fetch_or-found.new.seat.me
    c.fetch_or-found.result c.fetch_or-found.ensures.2 c.if-found-eq1.false in (
      search rules,
      search rules,
      gives_back _ _ _ _ (search rules) _ _ t.0 t.1 (ap (λ v. v.turn) t.4) (ap (λ v. v.gone) t.4 ∙ at.3)
          (t.5 ∙ ap (λ xs. (1, Some t.1) ∷ xs) at.1) (t.6.0, t.6.1 ∙ sym (ap (λ v. v.name) t.4)),
    )

pub run-requires-clause-own : goal.run-requires-clause-own
run-requires-clause-own g c = search rules

pub run-requires-clause-may : goal.run-requires-clause-may
run-requires-clause-may g c = let m = c.args.pass.now.seat.me in
    let t = took g.P.Part.stands g.P.Part.name m c.fetch_or-found.new.seat.me c.fetch_or-found.result
    c.fetch_or-found.ensures.2 c.if-found-eq1.false in
    subst (λ n. g.P.Part.may n c.args.call) (sym (ap (λ v. v.name) t.4)) c.requires.may

pub run-requires-clause-held : goal.run-requires-clause-held
run-requires-clause-held g c = let m = c.args.pass.now.seat.me in
    let t = took g.P.Part.stands g.P.Part.name m c.fetch_or-found.new.seat.me c.fetch_or-found.result
    c.fetch_or-found.ensures.2 c.if-found-eq1.false in
    held_after g.P.Part.stands g.P.Part.name m c.fetch_or-found.new.seat.me c.fetch_or-found.result
    t c.if-found.false c.args.pass.now.rests

pub returns-clause-step : goal.returns-clause-step
returns-clause-step g c =
    let m = c.args.pass.now.seat.me in
    let at = c.args.pass.now.rests in
    let t = took g.P.Part.stands g.P.Part.name m c.fetch_or-found.new.seat.me c.fetch_or-found.result
    c.fetch_or-found.ensures.2 c.if-found-eq1.false in
    let d = c.run.ensures.done t.0 (ap (λ v. v.turn) t.4) in
    let e = entered g.P.Part.stands g.P.Part.name
    (g.P.Part.entry c.args.call c.run.result) m.0 c.fetch_or-found.new.seat.me.0 c.run.new.seat.me.0
    c.fetch_or-found.result t.0 t.2 t.3 c.if-found.false t.4 d.0 t.7 t.8 at.4 d.2 d.3 in
    (e.0, e.1, c.run.ensures.answers)
