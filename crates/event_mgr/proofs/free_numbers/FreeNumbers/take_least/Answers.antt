use Rattle.std.proofs.Common.{◌≡◌, subst, sym, ◌<◌}
use Rattle.std.specs.Int.{bit_at}
use Rattle.event_mgr.proofs.Bitmaps.{read_word, all_out, word_left, least_free}
use Rattle.event_mgr.proofs.free_numbers.FreeNumbers.take_least.Goals as goal

pub returns-then-self-eq0-clause-none : goal.returns-then-self-eq0-clause-none
returns-then-self-eq0-clause-none c out b = (all_out out _ _ b c.if-self-eq0.true, b)

pub lowest_bit-bit-requires : goal.lowest_bit-bit-requires
lowest_bit-bit-requires c =
    let b = c.requires.1 in
    let read = read_word _ _ _ b.many c.lowest_bit-place.ensures.within c.index.ensures in
    subst (λ w. 0 < w) read
    (word_left _ _ _ _ b c.lowest_bit-place.ensures.within c.lowest_bit-place.ensures.set)

pub returns-clause-taken : goal.returns-clause-taken
returns-clause-taken c out b =
    let read = read_word _ _ _ b.many c.lowest_bit-place.ensures.within c.index.ensures in (
      least_free out _ _ _ _ b c.lowest_bit-place.ensures.within c.lowest_bit-bit.ensures.within
          c.lowest_bit-place.ensures.set c.lowest_bit-place.ensures.lower
          (subst (λ w. bit_at w c.lowest_bit-bit.result ≡ 1) (sym read) c.lowest_bit-bit.ensures.set)
          (λ a l. subst (λ w. bit_at w a ≡ 0) (sym read) (c.lowest_bit-bit.ensures.lower a l)),
      c.put_out.ensures out b,
    )
