use Rattle.std.proofs.Common.{All, sym, subst}
use Rattle.warp_passes.specs.Passes.{AreOf, pass_view}
use Rattle.warp_passes.specs.Cells.{SeatsAreOnce}
use Rattle.warp_passes.proofs.RowsOfPasses.{each_row, known_rows}
use Rattle.warp_passes.proofs.tests.levels_rows.Goals as goal

pub bring_rows_level-requires-clause-own : goal.bring_rows_level-requires-clause-own
bring_rows_level-requires-clause-own g c =
    let s = c.in_ok-shared.shared in
    subst (All (λ row. AreOf s row.pass)) (sym c.as_mut_slice.ensures.value)
    (each_row (λ row. row.pass) (λ p. AreOf s p) c.in_ok-rows.rows.items c.in_ok-shared.passes.items
    c.in_ok-rows.ensures c.in_ok-shared.ensures.new.own)

pub bring_rows_level-requires-clause-seats : goal.bring_rows_level-requires-clause-seats
bring_rows_level-requires-clause-seats g c =
    subst (SeatsAreOnce (λ row. pass_view row.pass)) (sym c.as_mut_slice.ensures.value)
    (c.moved_passes_hold_the_seats.ensures pass_view
    (λ row. pass_view row.pass) c.in_ok-shared.passes.items c.in_ok-rows.rows.items
    (known_rows (λ row. row.pass) pass_view c.in_ok-rows.rows.items c.in_ok-shared.passes.items
    c.in_ok-rows.ensures)
    c.in_ok-shared.ensures.new.seats)
