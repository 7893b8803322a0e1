use Rattle.std.proofs.Common.{ℕ, ◌∷◌, ◌∙◌, ap}
use Rattle.warp_request.specs.Body.{section_of}
use Rattle.warp_request.proofs.BodyLemmas.{section_feed, section_nul, section_text}
use Rattle.warp_request.proofs.body_place.text_step.Goals as goal
use Rattle.warp_request.proofs.body_place.text_step.Goals.{then-byte-eq-LINE_FEED-via-then-byte-eq-LINE_FEED}
use Rattle.warp_request.proofs.body_place.text_step.Goals.{then-byte-eq-LINE_FEED-via-else-byte-eq-LINE_FEED+then-byte-eq-NUL}

pub returns-then-byte-eq-LINE_FEED : goal.returns-then-byte-eq-LINE_FEED
returns-then-byte-eq-LINE_FEED c fresh at t =
    elim c.then-byte-eq-LINE_FEED.branch [
      | then-byte-eq-LINE_FEED-via-then-byte-eq-LINE_FEED w ↦
          ap (λ (b : ℕ). section_of fresh (b ∷ t)) w.if-byte-eq-LINE_FEED.true ∙ section_feed fresh t
      | then-byte-eq-LINE_FEED-via-else-byte-eq-LINE_FEED+then-byte-eq-NUL w ↦
          ap (λ (b : ℕ). section_of fresh (b ∷ t)) w.if-byte-eq-NUL.true ∙ section_nul fresh t
    ]

pub returns : goal.returns
returns c fresh at t =
    section_text fresh c.args.byte t c.if-byte-eq-CARRIAGE_RETURN.false c.if-byte-eq-LINE_FEED.false
    c.if-byte-eq-NUL.false
