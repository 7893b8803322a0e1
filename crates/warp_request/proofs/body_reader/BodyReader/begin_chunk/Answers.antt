use Rattle.std.proofs.Common.{◌≡◌, ℕ, ◌+◌, ◌≤◌, ◌∷◌, [], ◌++◌, sym, subst, arith}
use Rattle.warp_request.specs.declared.body_reader.BodyReader.{BodyReader}
use Rattle.warp_request.specs.BodyReader.{Represents}
use Rattle.warp_request.proofs.ChunkFeedLemmas.{feed_chunk, feed_last, feed_refused, feed_too_large}
use Rattle.warp_request.proofs.body_reader.BodyReader.begin_chunk.Goals as goal

none_of : (n : ℕ) → (1 ≤ n → ⊥) → n ≡ 0
none_of n none = grind arith

pub returns-then-byte-ne-LINE_FEED-clause-stands : goal.returns-then-byte-ne-LINE_FEED-clause-stands
returns-then-byte-ne-LINE_FEED-clause-stands c framing fed stands =
    subst (λ (r : BodyReader). Represents r framing (fed ++ c.args.byte ∷ [])) (sym c.go_to.ensures.goes)
    (feed_refused framing fed c.args.self.now.sum c.args.size c.args.byte c.if-byte-ne-LINE_FEED.true stands)

pub returns-then-sum-gt-BODY_LIMIT-clause-stands : goal.returns-then-sum-gt-BODY_LIMIT-clause-stands
returns-then-sum-gt-BODY_LIMIT-clause-stands c framing fed stands =
    subst (λ (r : BodyReader). Represents r framing (fed ++ c.args.byte ∷ []))
    (sym c.go_to-then-sum-gt-BODY_LIMIT.ensures.goes)
    (feed_too_large framing fed c.args.self.now.sum c.args.size c.args.byte c.if-byte-ne-LINE_FEED.false
    (omega (arith, c.saturating_add-sum.ensures, c.if-sum-gt-BODY_LIMIT.true)) stands)

pub returns-in-Some-clause-stands : goal.returns-in-Some-clause-stands
returns-in-Some-clause-stands c framing fed stands =
    let fits : c.args.self.now.sum + c.args.size ≤ 1048576 =
    omega (arith, c.saturating_add-sum.ensures, c.if-sum-gt-BODY_LIMIT.false) in
    subst (λ (r : BodyReader). Represents r framing (fed ++ c.args.byte ∷ []))
    (sym c.go_to-in-Some.ensures.goes)
    (feed_chunk framing fed c.args.self.now.sum c.args.size c.args.byte c.in-Some.behind
    c.saturating_add-sum.result c.if-byte-ne-LINE_FEED.false fits
    (omega (arith, c.in-Some.ensures.0, c.in-Some.ensures.1))
    (omega (arith, c.saturating_add-sum.ensures, fits)) stands)

pub returns-in-None-clause-stands : goal.returns-in-None-clause-stands
returns-in-None-clause-stands c framing fed stands =
    let fits : c.args.self.now.sum + c.args.size ≤ 1048576 =
    omega (arith, c.saturating_add-sum.ensures, c.if-sum-gt-BODY_LIMIT.false) in
    subst (λ (r : BodyReader). Represents r framing (fed ++ c.args.byte ∷ []))
    (sym c.go_to-in-None.ensures.goes)
    (feed_last framing fed c.args.self.now.sum c.args.size c.args.byte c.saturating_add-sum.result
    c.if-byte-ne-LINE_FEED.false fits (none_of c.args.size c.in-None.ensures) stands)
