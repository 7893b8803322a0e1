use Rattle.piece_net.proofs.EventLemmas.{others_given}
use Rattle.piece_net.proofs.piece_listener.PieceListenerListener.accept.Goals as goal

pub invariant_of-self-clause-untouched : goal.invariant_of-self-clause-untouched
invariant_of-self-clause-untouched c = others_given _ _ c.pop_front.ensures.rest c.args.self.now.untouched

pub invariant_of-self-in-Some-Fail-clause-untouched : goal.invariant_of-self-in-Some-Fail-clause-untouched
invariant_of-self-in-Some-Fail-clause-untouched c =
    others_given _ _ c.pop_front.ensures.rest c.args.self.now.untouched

pub invariant_of-self-in-Some-NotYet-clause-untouched : goal.invariant_of-self-in-Some-NotYet-clause-untouched
invariant_of-self-in-Some-NotYet-clause-untouched c =
    others_given _ _ c.pop_front.ensures.rest c.args.self.now.untouched
