use Rattle.std.proofs.Common.{◌≡◌, ℕ, ◌+◌, ◌++◌, List, length, sym, ap, ◌∙◌, subst, arith}
use Rattle.poller.specs.declared.laid_script.Reached.{Reached}
use Rattle.poller.specs.LaidScripts.{Lays}
use Rattle.poller.proofs.LaidScriptLemmas.{laid_more}
use Rattle.poller.proofs.ScriptLemmas.{allowed_more}
use Rattle.poller.proofs.laid_script.lay_out.Goals as goal

pub loop-step-preserved : goal.loop-step-preserved
loop-step-preserved c =
    let inv = c.loop-step.invariant in
    let s = c.step-item.result in
    let n : ℕ = c.loop-step.step-index in
    let steps = c.args.steps.now in
    let here = c.loop-step-test.true in
    let input : c.extend_from_slice.new.self.items
    ≡ c.loop-step.input.items ++ s.piece.items = c.in_ok-extend_from_slice.ensures.items
    ∙ ap (λ (t : List ℕ). c.loop-step.input.items ++ t) c.deref.ensures.value in
    let reached = c.in_ok-push-2.ensures.items in
    let long : c.len.result ≡ length c.extend_from_slice.new.self.items =
    c.len.ensures ∙ c.extend_from_slice.new.self.ok.0 in
    let r : Reached = record { input = c.len.result; allowance = c.loop-step.allowance + s.allowance } in
    let sum = ap (λ (k : ℕ). k + s.allowance) inv.1 in (
      subst (λ (t : List ℕ × List Reached). Lays steps (n + 1) t.0 t.1) (λ i. (sym input i, sym reached i))
          (laid_more steps n c.loop-step.input.items c.loop-step.reached.items s r inv.0 here c.step-item.is
          (long ∙ ap length input) sum),
      sum ∙ sym (allowed_more steps n s here c.step-item.is),
      omega (arith, inv.2),
    )
