use Rattle.std.proofs.Common.{ℕ, ◌+◌, min, ◌∙◌, sym, ap}
use Rattle.warp_request.proofs.ChunkSizeLemmas.{digit_more, digit_refused}
use Rattle.warp_request.proofs.body_place.behind_digits.Goals as goal

pub returns-then-count-ge-CHUNK_DIGITS : goal.returns-then-count-ge-CHUNK_DIGITS
returns-then-count-ge-CHUNK_DIGITS c sum framing fed =
    digit_refused framing fed sum c.args.count c.args.number c.args.byte c.in-Some.digit
    (sym c.in-Some.ensures) c.if-count-ge-CHUNK_DIGITS.true

pub returns-else-count-ge-CHUNK_DIGITS : goal.returns-else-count-ge-CHUNK_DIGITS
returns-else-count-ge-CHUNK_DIGITS c sum framing fed =
    digit_more framing fed sum c.args.count c.args.number c.args.byte c.in-Some.digit c.saturating_add.result
    (sym c.in-Some.ensures) c.if-count-ge-CHUNK_DIGITS.false
    (c.saturating_add.ensures
    ∙ ap (λ (n : ℕ). min (n + c.in-Some.digit) 18446744073709551615) c.saturating_mul.ensures)
