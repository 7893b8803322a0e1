use Rattle.std.proofs.Common.{◌<◌, ◌+◌, ◌^◌, List, length, ap, ◌∙◌, sym, subst, arith}
use Rattle.std.specs.Prelude.{All}
use Rattle.std.proofs.lemmas.List.Elements.{All-push}
use Rattle.poller.specs.declared.script.Script.{Script}
use Rattle.poller.proofs.tests.net.short_scripts.Goals as goal

pub loop-made-preserved : goal.loop-made-preserved
loop-made-preserved c =
    let inv = c.loop-made.invariant in
    let e = c.in_ok-push.ensures in (
      e.len ∙ ap (λ n. n + 1) inv.0,
      subst (λ (ss : List Script). All (λ (s : Script). length s.steps.items < 2 ^ 32) ss) (sym e.items)
          (All-push (λ (s : Script). length s.steps.items < 2 ^ 32) c.loop-made.scripts.items
          c.in_ok-script.script inv.1 c.in_ok-script.ensures),
    )

pub returns : goal.returns
returns c =
    let inv = c.loop-made.invariant in
    record { count = omega (arith, inv.0, c.loop-made.scripts.ok.0); lengths = inv.1 }
