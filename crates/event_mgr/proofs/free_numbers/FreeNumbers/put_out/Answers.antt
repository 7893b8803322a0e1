use Rattle.std.proofs.Common.{refl, sym, ap, ◌∙◌}
use Rattle.std.specs.Prelude.{◌==◌}
use Rattle.std.specs.Int.{bit_at}
use Rattle.std.proofs.lemmas.Bool.{ne_eqb}
use Rattle.event_mgr.proofs.Bitmaps.{read_word, out_put, was_some}
use Rattle.event_mgr.proofs.free_numbers.FreeNumbers.put_out.Goals as goal

pub returns-then-left-eq0 : goal.returns-then-left-eq0
returns-then-left-eq0 c out b =
    let read = read_word _ _ _ b.many c.requires.within.0 c.index.ensures in
    out_put out _ _ _ _ _ _ b c.requires.within.0 c.requires.within.1
    c.without_bit-left.ensures.cleared
    (λ k wk e. c.without_bit-left.ensures.others k wk e ∙ ap (λ x. bit_at x k) (sym read))
    (ap (λ x. x == 0) (c.without_bit-self.ensures.cleared ∙ sym c.if-left-eq0.true))
    c.without_bit-self.ensures.others

pub returns-else-left-eq0 : goal.returns-else-left-eq0
returns-else-left-eq0 c out b =
    let read = read_word _ _ _ b.many c.requires.within.0 c.index.ensures in
    let some = was_some c.index.result.now _ _ c.without_bit-left.type_inv c.without_bit-left.ensures.cleared
    c.without_bit-left.ensures.others c.if-left-eq0.false in
    out_put out _ _ _ _ _ _ b c.requires.within.0 c.requires.within.1
    c.without_bit-left.ensures.cleared
    (λ k wk e. c.without_bit-left.ensures.others k wk e ∙ ap (λ x. bit_at x k) (sym read))
    (b.empty _ c.requires.within.0 ∙ ap (λ x. x == 0) read ∙ ne_eqb _ 0 some
    ∙ sym (ne_eqb _ 0 c.if-left-eq0.false)) (λ k wk e. refl)
