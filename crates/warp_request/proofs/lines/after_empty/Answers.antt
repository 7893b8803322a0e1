use Rattle.std.proofs.Common.{arith, sym, ◌∙◌, ◌≡◌, ap, ℕ, ◌+◌, drop, length-drop}
use Rattle.std.proofs.lemmas.List.{take_rest}
use Rattle.warp_request.specs.Lines.{skip_empty, line_end_len}
use Rattle.warp_request.proofs.LineLemmas.{skip_on, skip_stop}
use Rattle.warp_request.proofs.lines.after_empty.Goals as goal

pub returns-then-len-eq0-clause-rest : goal.returns-then-len-eq0-clause-rest
returns-then-len-eq0-clause-rest c =
    let is : c.line_end_len-len.result ≡ line_end_len (drop c.loop-at.at c.args.bytes.now) =
    c.line_end_len-len.ensures.is ∙ ap line_end_len (take_rest c.args.bytes.now c.loop-at.at) in
    sym (skip_stop (drop c.loop-at.at c.args.bytes.now) (sym is ∙ c.if-len-eq0.true)) ∙ c.loop-at.invariant.1

pub loop-at-preserved : goal.loop-at-preserved
loop-at-preserved c =
    let is : c.line_end_len-len.result ≡ line_end_len (drop c.loop-at.at c.args.bytes.now) =
    c.line_end_len-len.ensures.is ∙ ap line_end_len (take_rest c.args.bytes.now c.loop-at.at) in (
      omega (
        arith,
        simp take_rest at c.line_end_len-len.ensures.within,
        length-drop c.loop-at.at c.args.bytes.now,
        c.loop-at.invariant.0,
      ),
      ap (λ (n : ℕ). skip_empty (drop (c.loop-at.at + n) c.args.bytes.now)) is
          ∙ skip_on c.args.bytes.now c.loop-at.at c.loop-at.invariant.1,
    )
