use Rattle.std.proofs.Common.{◌≡◌, ◌≤◌, ◌+◌, ◌++◌, length}
use Rattle.std.specs.Slice.Iter.{iter_rest}
use Rattle.mio.specs.Events.{items}
use Rattle.socket_poller.specs.Reports.{reports_of}
use Rattle.socket_poller.proofs.sock_poller.hear.Given as goal

abbrev pub invariant-loop-event : goal.invariant-loop-event
invariant-loop-event l = record {
  so_far : l.out ++ reports_of (iter_rest l.event-iterator) ≡ reports_of (items l.fn.events);
  room : length l.out + length (iter_rest l.event-iterator) ≤ 1024;
}
