use Rattle.std.proofs.Common.{◌+◌, List, ap, ◌∙◌, sym, subst}
use Rattle.std.specs.Prelude.{All}
use Rattle.std.proofs.lemmas.List.Elements.{All-push}
use Rattle.poller.specs.declared.mem_poller.MemPoller.{MemPoller}
use Rattle.poller.specs.Rounds.{HasNoEntries}
use Rattle.poller.proofs.mem_net.fresh_pollers.Goals as goal

pub loop-made-preserved : goal.loop-made-preserved
loop-made-preserved c =
    let inv = c.loop-made.invariant in
    let e = c.in_ok-push.ensures in (
      e.len ∙ ap (λ n. n + 1) inv.0,
      subst (λ (ps : List MemPoller). All HasNoEntries ps) (sym e.items)
          (All-push HasNoEntries c.loop-made.pollers.items c.new.result inv.1 c.new.ensures),
    )
