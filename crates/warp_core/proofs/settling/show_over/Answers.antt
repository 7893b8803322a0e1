use Rattle.std.proofs.Common.{◌∙◌, arith}
use Rattle.warp_core.specs.Rows.{known_by}
use Rattle.warp_core.proofs.Levelled.{rows_lawful, rows_own}
use Rattle.warp_core.proofs.Looked.{shown_over}
use Rattle.warp_core.proofs.RowLists.{all_same_by}
use Rattle.warp_core.proofs.KeepingBeats.{each_on_then}
use Rattle.warp_core.proofs.settling.show_over.Goals as goal

pub bring_level-requires-clause-serve : goal.bring_level-requires-clause-serve
bring_level-requires-clause-serve g c = c.requires.serve

pub bring_level-requires-clause-seats : goal.bring_level-requires-clause-seats
bring_level-requires-clause-seats g c = c.requires.seats

pub look_first-over-requires-clause-some : goal.look_first-over-requires-clause-some
look_first-over-requires-clause-some g c = let some = c.requires.some in omega arith

pub look_first-over-requires-clause-serve : goal.look_first-over-requires-clause-serve
look_first-over-requires-clause-serve g c = c.bring_level.ensures.serve

pub look_first-over-requires-clause-seats : goal.look_first-over-requires-clause-seats
look_first-over-requires-clause-seats g c = c.bring_level.ensures.seats

pub bring_level-requires-2-clause-serve : goal.bring_level-requires-2-clause-serve
bring_level-requires-2-clause-serve g c = c.look_first-over.ensures.serve

pub bring_level-requires-2-clause-seats : goal.bring_level-requires-2-clause-seats
bring_level-requires-2-clause-seats g c = c.look_first-over.ensures.seats

pub returns-clause-serve : goal.returns-clause-serve
returns-clause-serve g c = c.bring_level-2.ensures.serve

pub returns-clause-limit : goal.returns-clause-limit
returns-clause-limit g c =
    all_same_by (λ row. row.runner.limit) c.args.limit c.args.rows.now c.bring_level-2.new.rows
    (c.bring_level-2.ensures.limit ∙ (c.look_first-over.ensures.limit ∙ c.bring_level.ensures.limit))
    c.requires.limit

pub returns-clause-seats : goal.returns-clause-seats
returns-clause-seats g c = c.bring_level-2.ensures.seats

pub returns-clause-level : goal.returns-clause-level
returns-clause-level g c = c.bring_level-2.ensures.level

pub returns-clause-ends : goal.returns-clause-ends
returns-clause-ends g c =
    let s = c.args.shared.now in
    let zs = c.bring_level-2.new.rows in
    shown_over known_by c.level_passes_add_up.ensures c.replies_show_the_counts.ensures
    c.full_counts_close_each.ensures c.args.limit c.look_first-over.result
    c.bring_level.new.rows c.look_first-over.new.rows zs c.bring_level.ensures.level
    c.look_first-over.ensures.looked c.bring_level-2.ensures.came c.bring_level-2.ensures.keeps
    (rows_lawful s zs (rows_own g.B.Book.told g.P.Poller.meaning.faults s zs c.bring_level-2.ensures.serve))
    c.bring_level-2.ensures.level

pub returns-clause-beats : goal.returns-clause-beats
returns-clause-beats g c =
    each_on_then _ _ _ c.bring_level.ensures.beats
    (each_on_then _ _ _ c.look_first-over.ensures.beats c.bring_level-2.ensures.beats)
