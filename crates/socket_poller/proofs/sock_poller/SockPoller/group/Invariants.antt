use Rattle.std.proofs.Common.{◌≡◌, ◌+◌}
use Rattle.std.specs.Prelude.{vec_len, All}
use Rattle.std.specs.Vec.Iter.{into_iter_len}
use Rattle.socket_poller.specs.SockPolls.{faults_of, no_faults}
use Rattle.socket_poller.proofs.sock_poller.SockPoller.group.Given as goal

abbrev pub invariant-loop-made : goal.invariant-loop-made
invariant-loop-made g l = vec_len l.polls ≡ l._made

abbrev pub invariant-loop-poll : goal.invariant-loop-poll
invariant-loop-poll g l = record {
  count : into_iter_len l.poll-iterator + vec_len l.pollers ≡ l.fn.count;
  fresh : All (λ p. faults_of p ≡ no_faults) l.pollers.items;
}
