use Rattle.std.proofs.Common.{rules, ap, ◌∙◌}
use Rattle.turn_cell.specs.View.{left_of, right_of}
use Rattle.turn_cell.proofs.Keeps.{looks}
use Rattle.turn_cell.proofs.Splits.{splits}
use Rattle.turn_cell.proofs.Steps.{untold, is_split}
use Rattle.turn_cell.proofs.cell.TurnCell.split.Goals as goal

pub load-requires : goal.load-requires
load-requires g c =
    (search rules, search rules, looks _ _ _ _ _ _ c.args.pass.now.rests.0 c.args.pass.now.rests.3)

pub split_seat-seat-requires : goal.split_seat-seat-requires
split_seat-seat-requires g c = let f = c.load.ensures.2 in (
  search rules,
  search rules,
  splits _ _ _ _ _ (ap (λ v. v.turn) f.0 ∙ c.args.pass.now.rests.0)
      (ap (λ v. v.gone) f.0 ∙ c.args.pass.now.rests.3),
)

pub returns-clause-split : goal.returns-clause-split
returns-clause-split g c =
    let f = c.load.ensures.2 in
    let s = c.split_seat-seat.ensures in
    let v = c.args.pass.now.seat.me.0 in
    let same = untold v _ c.args.pass.now.rests.2 f.0 in
    is_split _ _ _ f.2.are f.2.firsts (ap (λ m. m.0) s.2 ∙ ap left_of same)
    (ap (λ m. m.0) s.4 ∙ ap right_of same)
