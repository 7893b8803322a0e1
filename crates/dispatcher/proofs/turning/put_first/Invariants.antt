use Rattle.dispatcher.proofs.Rotates.{HasTurned}
use Rattle.dispatcher.proofs.turning.put_first.Given as goal

abbrev pub invariant-loop : goal.invariant-loop
invariant-loop l = HasTurned l.counter (l.fn.opening, l.fn.dirs) l.fn.reports l.reports
