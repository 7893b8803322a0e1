use Rattle.std.proofs.Common.{length, ap, sym, ◌∙◌}
use Rattle.poller.proofs.ScriptLemmas.{word_limit}
use Rattle.poller.proofs.mem_listener.next_link.Goals as goal

pub deal-requires-clause-limit : goal.deal-requires-clause-limit
deal-requires-clause-limit c =
    c.len.ensures ∙ (sym c.deref.ensures.len ∙ (ap length c.deref.ensures.value ∙ (ap length c.requires.steps
    ∙ sym (word_limit c.args.dealer.now.scripts c.args.dealer.now.next c.requires.next.0))))
