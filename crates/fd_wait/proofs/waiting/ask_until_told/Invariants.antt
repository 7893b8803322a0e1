use Rattle.event_mgr.specs.Manager.{IsOfMgr, mgr_view}
use Rattle.fd_wait.specs.Waiting.{HasAskedOn}
use Rattle.fd_wait.proofs.waiting.ask_until_told.Given as goal
use Rattle.std.proofs.Common.{[]}

-- the flag was asked for, and no answer was its end
abbrev pub invariant-loop : goal.invariant-loop
invariant-loop g l = record {
  more : (goal.iterator-loop g).can_next l.iterator';
  finite : (goal.iterator-loop g).is_finite l.iterator';
  own : IsOfMgr l.mgr l.pass;
  asked : HasAskedOn l.key [] (λ y. Unit {0}) (mgr_view l.initial.pass) (mgr_view l.pass);
}
