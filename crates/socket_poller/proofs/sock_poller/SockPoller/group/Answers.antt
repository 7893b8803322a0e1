use Rattle.std.proofs.Common.{◌≡◌, All, sym, subst, arith}
use Rattle.std.proofs.lemmas.Grind.{common_steps}
use Rattle.std.proofs.lemmas.List.Elements.{All-push}
use Rattle.socket_poller.specs.SockPolls.{faults_of, no_faults}
use Rattle.socket_poller.proofs.sock_poller.SockPoller.group.Goals as goal

pub loop-poll-preserved : goal.loop-poll-preserved
loop-poll-preserved g c = record {
  count = grind (arith, common_steps);
  fresh = subst (All (λ p. faults_of p ≡ no_faults)) (sym c.in_ok-push-2.ensures.items)
      (All-push (λ p. faults_of p ≡ no_faults) _ _ c.loop-poll.invariant.fresh c.in_ok-new-3.ensures);
}
