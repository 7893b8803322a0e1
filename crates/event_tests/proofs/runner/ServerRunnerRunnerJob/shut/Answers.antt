use Rattle.event_tests.specs.Accounting.{finishes_in}
use Rattle.event_tests.proofs.Owing.{finished_on, owes_shut_job}
use Rattle.event_tests.proofs.runner.ServerRunnerRunnerJob.shut.Goals as goal

pub returns-clause-fits : goal.returns-clause-fits
returns-clause-fits c v rest o d m acc =
    let f = finishes_in c.args.self.now.book.now.finished.items in
    let job = c.args.job in
    finished_on job.opening job.number f
    (finishes_in c.finish.new.self.finished.items) v rest c.finish.ensures
    (owes_shut_job o c.args._key d m job.opening job.number f v rest acc)
