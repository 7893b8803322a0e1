use Rattle.std.proofs.Common.{◌≡◌}
use Rattle.ready_queue.specs.Calls.{IsOf, view_of}
use Rattle.dispatcher.proofs.enqueue.put_or_keep.Given as goal

abbrev pub invariant-loop : goal.invariant-loop
invariant-loop g l = record {
  may_go_on : (goal.iterator-loop g).can_next l.iterator' × (goal.iterator-loop g).is_finite l.iterator';
  own : IsOf l.queue l.pass;
  same : view_of l.pass ≡ view_of l.initial.pass;
  hand : l.hand ≡ l.initial.hand;
  event : l.event ≡ l.fn.event;
}
