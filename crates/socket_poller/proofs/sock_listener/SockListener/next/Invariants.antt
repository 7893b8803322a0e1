use Rattle.std.proofs.Common.{◌≡◌}
use Rattle.socket_poller.specs.SockListeners.{told_of}
use Rattle.socket_poller.proofs.sock_listener.SockListener.next.Given as goal

abbrev pub invariant-loop : goal.invariant-loop
invariant-loop l = told_of l.self ≡ told_of l.fn.self
