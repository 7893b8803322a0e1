use Rattle.turn_cell.specs.Calls.{IsOf}
use Rattle.warp_tally.proofs.tests.what_is_turned_away_counts_as_accepted_and_the_first_stop_stays.Given as goal

abbrev pub invariant-loop-call : goal.invariant-loop-call
invariant-loop-call g l = IsOf l.cell l.pass
