use Rattle.event_mgr.specs.Manager.{IsOfMgr}
use Rattle.event_bench.proofs.rounds.make_rounds.Given as goal

abbrev pub invariant-loop-round : goal.invariant-loop-round
invariant-loop-round g l = IsOfMgr l.mgr l.row.pass
