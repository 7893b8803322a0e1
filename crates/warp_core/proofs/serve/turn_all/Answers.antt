use Rattle.std.proofs.Common.{rules, ◌≡◌, ◌<◌, length, get_or, sym, ap, ◌∙◌, subst, arith}
use Rattle.level.specs.ListLaws.{map_each}
use Rattle.warp_passes.specs.Levels.{HasPassGrown}
use Rattle.warp_core.specs.Rows.{Serves, beat_of, known_by}
use Rattle.warp_core.specs.SweepTimes.{KeepsOn}
use Rattle.warp_core.proofs.RowLists.{each_place}
use Rattle.warp_core.proofs.serve.turn_all.Goals as goal

pub for_each_mut-requires-clause-accepts : goal.for_each_mut-requires-clause-accepts
for_each_mut-requires-clause-accepts g c =
    λ κs lives i p lt is.
    subst (λ row. Serves g.B.Book.told g.P.Poller.meaning.faults c.args.shared.now row)
    (sym is) (c.requires.serve i p.now lt)

pub returns-clause-serve : goal.returns-clause-serve
returns-clause-serve g c =
    let len : length c.for_each_mut.new.s ≡ length c.args.rows.now = search rules in
    λ k d lt.
    let n : k < length c.args.rows.now = omega arith in
    let t = (c.for_each_mut.ensures k d n).1 in
    subst (λ row. Serves g.B.Book.told g.P.Poller.meaning.faults c.args.shared.now row) t.left t.call.0

pub returns-clause-seats : goal.returns-clause-seats
returns-clause-seats g c =
    let xs = c.args.rows.now in
    let ys = c.for_each_mut.new.s in
    let len : length ys ≡ length xs = search rules in
    c.grown_passes_hold_the_seats.ensures known_by xs ys
    (each_place HasPassGrown known_by xs ys len (λ i d lt.
    (let t = (c.for_each_mut.ensures i d lt).1 in
    subst (λ row. HasPassGrown (known_by (get_or xs i d)) (known_by row)) t.left
    (subst (λ row. HasPassGrown (known_by row) (known_by t.after_call.now)) t.argument_is t.call.1.passes))))
    c.requires.seats

pub returns-clause-limit : goal.returns-clause-limit
returns-clause-limit g c =
    let xs = c.args.rows.now in
    let ys = c.for_each_mut.new.s in
    let len : length ys ≡ length xs = search rules in
    map_each (λ row. row.runner.limit) xs ys len (λ i d lt.
    (let t = (c.for_each_mut.ensures i d lt).1 in
    ap (λ row. row.runner.limit) (sym t.left)
    ∙ (t.call.1.limit ∙ ap (λ row. row.runner.limit) t.argument_is)))

pub returns-clause-beats : goal.returns-clause-beats
returns-clause-beats g c =
    let xs = c.args.rows.now in
    let ys = c.for_each_mut.new.s in
    let len : length ys ≡ length xs = search rules in
    let known = beat_of g.C.Clock.told in
    each_place KeepsOn known xs ys len (λ i d lt.
    (let t = (c.for_each_mut.ensures i d lt).1 in
    subst (λ row. KeepsOn (known (get_or xs i d)) (known row)) t.left
    (subst (λ row. KeepsOn (known row) (known t.after_call.now)) t.argument_is t.call.2)))
