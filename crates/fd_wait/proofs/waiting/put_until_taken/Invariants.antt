use Rattle.std.proofs.Common.{◌≡◌}
use Rattle.ready_queue.specs.Calls.{IsOf, view_of}
use Rattle.fd_wait.proofs.waiting.put_until_taken.Given as goal

-- the pass is as it was, and the event is the one that is to be put
abbrev pub invariant-loop : goal.invariant-loop
invariant-loop g l = record {
  more : (goal.iterator-loop g).can_next l.iterator';
  finite : (goal.iterator-loop g).is_finite l.iterator';
  own : IsOf l.queue l.pass;
  same : view_of l.pass ≡ view_of l.initial.pass;
  event : l.event ≡ l.fn.event;
}
