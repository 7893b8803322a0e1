use Rattle.std.proofs.Common.{sym, ap, ◌∙◌, subst, [], ◌∷◌, ◌++◌}
use Rattle.std.specs.Prelude.{Some}
use Rattle.std.specs.Option.{option_map}
use Rattle.atomic_table.specs.Table.{rest}
use Rattle.turn_cell.specs.View.{seat_of}
use Rattle.turn_cell.proofs.Runs.{alone, lent, lent_back, held_list}
use Rattle.turn_cell.proofs.cell.TurnCell.run.Goals as goal

pub slot_mut-held-requires : goal.slot_mut-held-requires
slot_mut-held-requires g c = let h = c.requires.held in (c.requires.own, (Some h.1, alone _ _ h.3))

pub answer-reply-requires : goal.answer-reply-requires
answer-reply-requires g c = let h = c.requires.held in (
  h.1,
  lent c.args.seat.now.me.1 h.1 c.slot_mut-held.result.now h.3 c.slot_mut-held.ensures.value,
  subst (λ n. g.P.Part.may n c.args.call) (sym h.4.1) c.requires.may,
  h.0,
  h.4.0,
  h.5,
)

pub end-requires-clause-ready : goal.end-requires-clause-ready
end-requires-clause-ready g c = let h = c.requires.held in
    let a = c.answer-reply.ensures.part h.1
    (lent c.args.seat.now.me.1 h.1 c.slot_mut-held.result.now h.3 c.slot_mut-held.ensures.value) in (
      h.0,
      a.0,
      g.P.Part.entry c.args.call c.answer-reply.result,
      ap (option_map _) c.requires.said,
      h.2,
      lent_back c.args.seat.now.me.1 h.1 a.0 c.answer-reply.new.slot h.3 a.1,
      (a.3 h.0 (seat_of c.args.seat.now.me.0) h.4.0, a.2 ∙ h.4.1),
      h.5,
      h.6,
      h.7,
    )

pub returns-clause-done : goal.returns-clause-done
returns-clause-done g c l is = let h = c.requires.held in
    let a = c.answer-reply.ensures.part h.1
    (lent c.args.seat.now.me.1 h.1 c.slot_mut-held.result.now h.3 c.slot_mut-held.ensures.value) in
    let d = c.end.ensures.done l _ is (ap (option_map _) c.requires.said) in
    let l_is = held_list l h.0 (sym is ∙ h.2) in (
      d.0,
      d.1 ∙ ap rest h.3,
      a.0,
      (
        subst (g.P.Part.stands a.0)
            (ap
            (λ k. k ++ (seat_of c.args.seat.now.me.0, g.P.Part.entry c.args.call c.answer-reply.result) ∷ [])
            (sym l_is) ∙ sym (ap (λ v. v.seen) d.0)) (a.3 h.0 (seat_of c.args.seat.now.me.0) h.4.0),
        a.2 ∙ (h.4.1 ∙ sym (ap (λ v. v.name) d.0)),
      ),
    )
