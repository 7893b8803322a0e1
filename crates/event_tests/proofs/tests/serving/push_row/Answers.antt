use Rattle.std.specs.Prelude.{All}
use Rattle.std.proofs.Common.{List, sym, subst}
use Rattle.std.proofs.lemmas.List.Elements.{All-push}
use Rattle.event_tests.specs.declared.turns.Row.{Row}
use Rattle.event_tests.specs.Rows.{ServesRow}
use Rattle.event_tests.proofs.tests.serving.push_row.Goals as goal

pub returns : goal.returns
returns c =
    let Kept : Row → Type 0 = λ row. ServesRow c.args.mgr.now c.args.queue.now row.pass row.kit.book in
    subst (λ (rows : List Row). All Kept rows) (sym c.in_ok-push.ensures.items)
    (All-push Kept c.args.rows.now.items c.args.row c.requires.rows c.requires.row)
