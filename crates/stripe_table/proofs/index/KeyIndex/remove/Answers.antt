use Rattle.std.proofs.Common.{sym, ◌∙◌, arith}
use Rattle.std.proofs.lemmas.List.{get_or_default}
use Rattle.stripe_table.proofs.Listed.{removed}
use Rattle.stripe_table.proofs.index.KeyIndex.remove.Goals as goal

pub returns : goal.returns
returns c =
    let ws = c.self.inside.words.items in
    let w = c.word_at-word.result in
    let many = c.self.invariant in
    let low = c.word_at-word.ensures.within in
    removed ws c.args.self.now w c.index.result.now c.without_bit.result c.args.key
    c.args.place c.self.view_is c.word_at-word.ensures.value (omega arith)
    (get_or_default ws w 0 c.index.result.now (omega arith) ∙ sym c.index.ensures) c.requires
    c.without_bit.ensures.others
