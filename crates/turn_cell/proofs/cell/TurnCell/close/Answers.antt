use Rattle.std.proofs.Common.{rules, ap, ◌∙◌, ◌∷◌, Some}
use Rattle.turn_cell.proofs.Keeps.{takes_turn}
use Rattle.turn_cell.proofs.Runs.{took, alone}
use Rattle.turn_cell.proofs.cell.TurnCell.close.Goals as goal

pub fetch_or-found-requires : goal.fetch_or-found-requires
fetch_or-found-requires g c =
    (search rules, search rules, takes_turn _ _ _ _ (search rules) _ _ c.args.pass.rests.3)

pub exchange-requires : goal.exchange-requires
exchange-requires g c =
    let m = c.args.pass.seat.me in
    let at = c.args.pass.rests in
    let t = took g.P.Part.stands g.P.Part.name m c.fetch_or-found.new.seat.me c.fetch_or-found.result
    c.fetch_or-found.ensures.2 c.if-found-eq1.false in
    (search rules, (Some t.1, alone _ _ (t.5 ∙ ap (λ xs. (1, Some t.1) ∷ xs) at.1)))
