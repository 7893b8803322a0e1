use Rattle.event_mgr.specs.Manager.{mgr_view}
use Rattle.event_tests.specs.Accounting.{finishes_in}
use Rattle.event_tests.proofs.Owing.{finished_on}
use Rattle.event_tests.proofs.calls.finish.Goals as goal

pub returns-clause-finished : goal.returns-clause-finished
returns-clause-finished g c jobs owes =
    let before = finishes_in c.args.book.now.finished.items in
    let after = finishes_in c.finish.new.self.finished.items in
    finished_on c.args.opening c.args.number before after (mgr_view c.close.new.pass) jobs c.finish.ensures
    (c.close.ensures.owes c.args.opening c.args.number before jobs owes)
