use Rattle.std.proofs.Common.{ℕ, ◌∷◌, ◌∙◌, ap, true, false}
use Rattle.warp_request.specs.declared.body_place.TrailerLine.{TrailerLine}
use Rattle.warp_request.specs.Body.{section_of}
use Rattle.warp_request.specs.BodyReader.{section_at}
use Rattle.warp_request.proofs.BodyLemmas.{section_end, section_line, section_no_feed}
use Rattle.warp_request.proofs.body_place.trailer_step.Goals as goal

pub returns-then-byte-eq-LINE_FEED : goal.returns-then-byte-eq-LINE_FEED
returns-then-byte-eq-LINE_FEED c t =
    ap (λ (l : TrailerLine). section_at l (c.args.byte ∷ t)) c.in-StartReturn.is
    ∙ ap (λ (b : ℕ). section_of true (13 ∷ b ∷ t)) c.if-byte-eq-LINE_FEED.true ∙ section_end t

pub returns-else-byte-eq-LINE_FEED : goal.returns-else-byte-eq-LINE_FEED
returns-else-byte-eq-LINE_FEED c t =
    ap (λ (l : TrailerLine). section_at l (c.args.byte ∷ t)) c.in-StartReturn.is
    ∙ section_no_feed true c.args.byte t c.if-byte-eq-LINE_FEED.false

pub returns-then-byte-eq-LINE_FEED-2 : goal.returns-then-byte-eq-LINE_FEED-2
returns-then-byte-eq-LINE_FEED-2 c t =
    ap (λ (l : TrailerLine). section_at l (c.args.byte ∷ t)) c.in-InsideReturn.is
    ∙ ap (λ (b : ℕ). section_of false (13 ∷ b ∷ t)) c.if-byte-eq-LINE_FEED-2.true ∙ section_line t

pub returns-else-byte-eq-LINE_FEED-2 : goal.returns-else-byte-eq-LINE_FEED-2
returns-else-byte-eq-LINE_FEED-2 c t =
    ap (λ (l : TrailerLine). section_at l (c.args.byte ∷ t)) c.in-InsideReturn.is
    ∙ section_no_feed false c.args.byte t c.if-byte-eq-LINE_FEED-2.false
