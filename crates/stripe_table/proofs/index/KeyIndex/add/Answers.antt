use Rattle.std.proofs.Common.{sym, ◌∙◌, arith}
use Rattle.std.proofs.lemmas.List.{get_or_default}
use Rattle.stripe_table.proofs.Listed.{added, added_kept}
use Rattle.stripe_table.proofs.index.KeyIndex.add.Goals as goal

pub returns-clause-here : goal.returns-clause-here
returns-clause-here c =
    let ws = c.self.inside.words.items in
    let w = c.word_at-word.result in
    let many = c.self.invariant in
    let low = c.word_at-word.ensures.within in
    added ws c.args.self.now w c.index.result.now c.with_bit.result c.args.key
    c.args.place c.self.view_is c.word_at-word.ensures.value (omega arith)
    (get_or_default ws w 0 c.index.result.now (omega arith) ∙ sym c.index.ensures) c.with_bit.ensures.set

pub returns-clause-kept : goal.returns-clause-kept
returns-clause-kept c =
    let ws = c.self.inside.words.items in
    let w = c.word_at-word.result in
    let many = c.self.invariant in
    let low = c.word_at-word.ensures.within in
    added_kept ws c.args.self.now w c.index.result.now c.with_bit.result c.args.key
    c.args.place c.self.view_is c.word_at-word.ensures.value (omega arith)
    (get_or_default ws w 0 c.index.result.now (omega arith) ∙ sym c.index.ensures)
    c.with_bit.ensures.set c.with_bit.ensures.others
