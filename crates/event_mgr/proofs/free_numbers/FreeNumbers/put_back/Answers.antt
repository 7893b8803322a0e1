use Rattle.std.proofs.Common.{◌≡◌, ◌+◌, ◌*◌, ◌/◌, ◌%◌, ◌<◌, true, sym, subst, ◌∙◌, arith}
use Rattle.std.proofs.lemmas.Bool.{not-false}
use Rattle.event_mgr.specs.FreeNumbers.{put_in, ShowsOut}
use Rattle.event_mgr.proofs.Bitmaps.{read_word, word_tells}
use Rattle.event_mgr.proofs.free_numbers.FreeNumbers.put_back.Goals as goal

pub returns-clause-back : goal.returns-clause-back
returns-clause-back c out b e =
    let n = c.args.number in
    let place : 64 * (n / 64) + n % 64 ≡ n = omega arith in
    let within : n / 64 < 64 = omega arith in
    let read = read_word _ _ _ b.many within c.index.ensures in (
      omega arith,
      subst (λ m. out m ≡ true) place
          (word_tells out _ _ _ _ _ b within (omega arith) read ∙ not-false _ (sym c.if-has_bit.ensures)),
      subst (λ m. ShowsOut (put_in m out) c.put_in.new.self) place (c.put_in.ensures out b),
    )
