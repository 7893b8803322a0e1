use Rattle.std.proofs.Common.{[], refl}
use Rattle.ready_queue.specs.Calls.{capacity_of}
use Rattle.dispatcher.specs.Turns.{book_of, work_with}
use Rattle.dispatcher.proofs.Accounts.{accounted_same}
use Rattle.dispatcher.proofs.Works.{run_same}
use Rattle.dispatcher.proofs.turning.relieve.Goals as goal

pub returns-then-len-lt-KEPT-clause-leaves : goal.returns-then-len-lt-KEPT-clause-leaves
returns-then-len-lt-KEPT-clause-leaves g c = record {
  own = c.requires.ready.own;
  stop = c.requires.ready.stop;
  fits = c.requires.ready.fits;
  poller = record { same_polled = refl; same_faults = refl };
}

pub returns-then-len-lt-KEPT-clause-went : goal.returns-then-len-lt-KEPT-clause-went
returns-then-len-lt-KEPT-clause-went g c = record {
  events = accounted_same (capacity_of c.args.queue.now) (book_of c.args.passes.now);
  ran =
      run_same g.X.Runner.meaning g.met.X.Runner.laws.keeps_same
      (work_with [] [] c.args.passes.now) c.args.runner.now;
}
