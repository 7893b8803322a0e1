use Rattle.std.specs.Arc.{arc_value}
use Rattle.warp_passes.specs.Passes.{pass_view}
use Rattle.whole_runs.specs.Accounts.{books_of}
use Rattle.whole_runs.proofs.EndsTold.{all_rest}
use Rattle.whole_runs.proofs.Served.{all_lawful, explained_by, openings_counted, where_over}
use Rattle.whole_runs.proofs.SweptClosed.{swept_closed}
use Rattle.whole_runs.proofs.Totals.{all_over, all_runs}
use Rattle.whole_runs.proofs.laws.served_runs_add_up.Goals as goal

pub returns : goal.returns
returns g c =
    let served = c.args.served.now in
    let passes = served.passes.items in
    let kits = served.kits.items in
    let books = books_of g.B.Book.told kits in
    let ends = c.legal_ends_what_was_registered.ensures in
    let once = c.legal_stripes_happen_once.ensures in
    let follow = c.finishes_follow_accepts.ensures in
    let lawful = all_lawful (arc_value served.shared) passes c.requires.own in
    let explained = explained_by g.B.Book.told c.args.limit passes kits c.requires.explained in
    record {
      runs =
          all_runs pass_view c.args.limit passes books ends once follow
          (λ x ys. c.level_passes_add_up.ensures pass_view x ys) lawful c.requires.level explained;
      causes = all_rest pass_view c.args.limit passes books explained;
      opened = λ o. openings_counted g.B.Book.told o c.args.limit passes kits c.requires.explained;
      closed = λ o. swept_closed o g.B.Book.told c.args.limit passes kits c.requires.explained;
      over = where_over pass_view c.args.limit served.end passes _ books
          (λ counts. all_over pass_view c.args.limit counts passes books c.ranges.limit.fits ends once follow
          (λ x ys. c.level_passes_add_up.ensures pass_view x ys) lawful c.requires.level explained)
          c.requires.ends;
    }
