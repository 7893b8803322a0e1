use Rattle.std.proofs.Common.{sym, ap, ◌∙◌}
use Rattle.std.specs.Prelude.{◌==◌}
use Rattle.std.specs.Int.{bit_at}
use Rattle.event_mgr.proofs.Bitmaps.{read_word, in_put, has_one}
use Rattle.event_mgr.proofs.free_numbers.FreeNumbers.put_in.Goals as goal

pub returns : goal.returns
returns c out b =
    let read = read_word _ _ _ b.many c.requires.within.0 c.index.ensures in
    in_put out _ _ _ _ _ _ b c.requires.within.0 c.requires.within.1
    c.with_bit-word.ensures.set
    (λ k wk e. c.with_bit-word.ensures.others k e ∙ ap (λ x. bit_at x k) (sym read))
    (ap (λ x. x == 0) c.with_bit-self.ensures.set ∙ sym (has_one _ _ c.with_bit-word.ensures.set))
    (λ k wk e. c.with_bit-self.ensures.others k e)
