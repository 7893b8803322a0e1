use Rattle.std.proofs.Common.{◌≡◌, length, refl, set, arith}
use Rattle.std.specs.Prelude.{slice_get, Some}
use Rattle.std.proofs.lemmas.Option.{slice_get_read}
use Rattle.std.proofs.lemmas.List.Elements.{All-set}
use Rattle.warp_passes.specs.Passes.{AreOf, pass_view}
use Rattle.warp_passes.proofs.GrownPasses.{one_grew}
use Rattle.warp_passes.proofs.tests.is_answered.Goals as goal

pub returns-clause-own : goal.returns-clause-own
returns-clause-own g c =
    All-set (λ p. AreOf c.args.shared.now p) c.args.passes.now.items c.args.step.place
    c.call_with-out.new.pass
    c.call_with-out.ensures.own c.requires.own

pub returns-clause-seats : goal.returns-clause-seats
returns-clause-seats g c =
    let ps = c.args.passes.now.items in
    let p = c.index_mut-pass.result.now in
    let low = c.if-step-len.false in
    let at : slice_get ps c.args.step.place ≡ Some p =
    slice_get_read ps (length ps) c.args.step.place p refl (omega arith) c.index_mut-pass.ensures.value in
    c.grown_passes_hold_the_seats.ensures pass_view ps (set ps c.args.step.place c.call_with-out.new.pass)
    (one_grew pass_view ps c.args.step.place p c.call_with-out.new.pass at c.call_with-out.ensures.grown)
    c.requires.seats
