use Rattle.std.proofs.Common.{rules, ap, ◌∙◌, sym, subst}
use Rattle.turn_cell.specs.declared.view.JoinPending.TheVariants.{Nothing}
use Rattle.turn_cell.specs.declared.view.View.{View}
use Rattle.turn_cell.specs.Classes.{AreClasses}
use Rattle.turn_cell.specs.View.{JoinFits}
use Rattle.turn_cell.specs.ClassLaws.{append_full}
use Rattle.turn_cell.proofs.Keeps.{looks}
use Rattle.turn_cell.proofs.Splits.{joins}
use Rattle.turn_cell.proofs.Steps.{is_joined}
use Rattle.turn_cell.proofs.cell.TurnCell.join.Goals as goal

pub join_seat-requires : goal.join_seat-requires
join_seat-requires g c =
    let a = c.args.pass.now.rests in
    let b = c.args.other.rests in
    (search rules, search rules, b.1, search rules, joins _ _ _ _ _ _ _ a.0 a.3 b.3)

pub load-requires : goal.load-requires
load-requires g c =
    let a = c.args.pass.now.rests in
    let e = c.join_seat.ensures.2 in
    (search rules, search rules, looks _ _ _ _ _ _ (ap (λ m. m.0.turn) e ∙ a.0) (ap (λ m. m.0.gone) e ∙ a.3))

pub invariant_of-pass : goal.invariant_of-pass
invariant_of-pass g c =
    let a = c.args.pass.now.rests in
    let e = c.join_seat.ensures.2 in
    let f = c.load.ensures.2 in
    record {
      rests = (
        ap (λ v. v.turn) f.0 ∙ (ap (λ m. m.0.turn) e ∙ a.0),
        f.1 ∙ (ap (λ m. m.1) e ∙ a.1),
        ap (λ v. v.told) f.0,
        ap (λ v. v.gone) f.0 ∙ (ap (λ m. m.0.gone) e ∙ a.3),
        λ z. append_full _ _ a.4 (sym (ap (λ v. v.classes) f.0 ∙ ap (λ m. m.0.classes) e) ∙ z),
      );
    }

pub returns-clause-joined : goal.returns-clause-joined
returns-clause-joined g c =
    let e = ap (λ m. m.0) c.join_seat.ensures.2 in
    let f = c.load.ensures.2 in
    let plain : View _ → View _ = λ v. record v { told = Nothing } in
    is_joined _ _ _ (subst (λ v. AreClasses v.classes) e f.2.are) (subst (λ v. JoinFits v.told) e f.2.fits)
    (f.0 ∙ ap plain e)
