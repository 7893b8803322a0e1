-- The trailers of a chunked body, one byte further.
use Rattle.std.proofs.Common.{inl, ◌≡◌, ℕ, ◌+◌, ◌-◌, ◌<◌, ◌≤◌, true, false, List, [], ◌∷◌, ◌++◌, length, ap}
use Rattle.std.proofs.Common.{◌∙◌, append_assoc, length-append, arith}
use Rattle.warp_request.specs.declared.body_place.BodyPlace.TheVariants as Places
use Rattle.warp_request.specs.declared.body_place.TrailerLine.{TrailerLine}
use Rattle.warp_request.specs.declared.body_place.TrailerLine.TheVariants as Lines
use Rattle.warp_response.specs.Statuses.{bad_request, header_fields_too_large}
use Rattle.warp_request.specs.declared.verdict.Framing.{Framing}
use Rattle.warp_request.specs.Body.{cut, wrong, past, chunked, section_of, trailers}
use Rattle.warp_request.specs.BodyReader.{InTrailers, RepresentsAt, section_at}
use Rattle.warp_request.proofs.BodyLemmas.{capped_full, capped_past, capped_wrong, section_nil}
use Rattle.warp_request.proofs.BodyLemmas.{section_return}
use Rattle.warp_request.proofs.ChunkedLemmas.{one_more, refused_at, whole_at, more_of_line}

-- what a section that goes on leaves
section_leaves : (framing : Framing) (fed t : List ℕ) (room : ℕ) (line : TrailerLine)
    (x : InTrailers room line fed) (b : ℕ)
    → chunked (fed ++ b ∷ [] ++ t) ≡ trailers (x.lines ++ b ∷ t)
section_leaves framing fed t room line x b =
    ap (λ (s : List ℕ). chunked s)
    (one_more fed t b ∙ ap (λ (f : List ℕ). f ++ b ∷ t) x.parts ∙ append_assoc x.before x.lines (b ∷ t))
    ∙ x.goes_on (x.lines ++ b ∷ t)

-- the section ends
pub trailers_end : (framing : Framing) (fed : List ℕ) (sum room : ℕ) (line : TrailerLine) (b : ℕ)
    → ((t : List ℕ) → section_at line (b ∷ t) ≡ past 0 t)
    → RepresentsAt (Places.Trailers room line) sum framing fed
    → RepresentsAt Places.Whole sum framing (fed ++ b ∷ [])
trailers_end framing fed sum room line b ends (chunked_is, x) =
    whole_at framing (fed ++ b ∷ []) chunked_is
    (λ t. section_leaves framing fed t room line x b
    ∙ capped_past 4096 header_fields_too_large x.lines t b 0 (section_of true)
    (omega (arith, x.kept, x.some)) (λ u. x.reads (b ∷ u) ∙ ends u))

-- the section is broken
pub trailers_break : (framing : Framing) (fed : List ℕ) (sum room : ℕ) (line : TrailerLine) (b : ℕ)
    → ((t : List ℕ) → section_at line (b ∷ t) ≡ wrong bad_request)
    → RepresentsAt (Places.Trailers room line) sum framing fed
    → RepresentsAt (Places.Refused bad_request) sum framing (fed ++ b ∷ [])
trailers_break framing fed sum room line b breaks (chunked_is, x) =
    refused_at framing (fed ++ b ∷ []) bad_request chunked_is
    (λ t. section_leaves framing fed t room line x b
    ∙ capped_wrong 4096 header_fields_too_large bad_request x.lines t b (section_of true)
    (omega (arith, x.kept, x.some)) (λ u. x.reads (b ∷ u) ∙ breaks u))

-- nothing more is a part of no line
pub section_at_nil : (line : TrailerLine) → section_at line [] ≡ cut
section_at_nil Lines.Start = section_nil true
section_at_nil Lines.Inside = section_nil false
section_at_nil Lines.StartReturn = section_return true
section_at_nil Lines.InsideReturn = section_return false

-- the last byte that a section may have doesn't end it
pub trailers_full : (framing : Framing) (fed : List ℕ) (sum room : ℕ) (line next : TrailerLine) (b : ℕ)
    → room ≤ 1 → ((t : List ℕ) → section_at line (b ∷ t) ≡ section_at next t)
    → RepresentsAt (Places.Trailers room line) sum framing fed
    → RepresentsAt (Places.Refused header_fields_too_large) sum framing (fed ++ b ∷ [])
trailers_full framing fed sum room line next b last goes (chunked_is, x) =
    refused_at framing (fed ++ b ∷ []) header_fields_too_large chunked_is
    (λ t. section_leaves framing fed t room line x b
    ∙ capped_full 4096 header_fields_too_large x.lines t b (section_of true)
    (omega (arith, x.kept, x.some, last))
    (inl (x.reads (b ∷ []) ∙ goes [] ∙ section_at_nil next)))

-- the section goes on
pub trailers_more : (framing : Framing) (fed : List ℕ) (sum room : ℕ) (line next : TrailerLine) (b : ℕ)
    → 1 < room → ((t : List ℕ) → section_at line (b ∷ t) ≡ section_at next t)
    → RepresentsAt (Places.Trailers room line) sum framing fed
    → RepresentsAt (Places.Trailers (room - 1) next) sum framing (fed ++ b ∷ [])
trailers_more framing fed sum room line next b some goes (chunked_is, x) =
    let size : length (x.lines ++ b ∷ []) ≡ length x.lines + 1 = length-append x.lines (b ∷ []) in (
      chunked_is,
      record {
        before = x.before;
        lines = x.lines ++ b ∷ [];
        parts = more_of_line x.before x.lines fed b x.parts;
        some = omega (arith, some);
        kept = omega (arith, x.kept, size, some);
        goes_on = x.goes_on;
        reads = λ t. ap (λ (s : List ℕ). section_of true s) (one_more x.lines t b) ∙ x.reads (b ∷ t) ∙ goes t;
      },
    )
