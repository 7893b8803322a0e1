-- The extension of a chunk line, one byte further.
use Rattle.std.proofs.Common.{◌≡◌, ◌≢◌, ℕ, ◌+◌, ◌-◌, ◌<◌, ◌≤◌, true, false, List, [], ◌∷◌, ◌++◌, length, sym}
use Rattle.std.proofs.Common.{ap, ◌∙◌, subst, length-append, arith}
use Rattle.std.specs.Prelude.{◌⊎◌}
use Rattle.warp_request.specs.declared.body_place.BodyPlace.TheVariants as Places
use Rattle.warp_response.specs.Statuses.{bad_request}
use Rattle.warp_request.specs.declared.verdict.Framing.{Framing}
use Rattle.warp_request.specs.Body.{Part, cut, wrong, behind_extension, is_extension_byte, line_end, line_of}
use Rattle.warp_request.specs.BodyReader.{RepresentsAt}
use Rattle.warp_request.proofs.BodyLemmas.{capped_full, capped_wrong, extension_last, extension_other}
use Rattle.warp_request.proofs.BodyLemmas.{extension_return, extension_text}
use Rattle.warp_request.specs.BodyGrowthLaws.{line_end_wrong}
use Rattle.warp_request.proofs.ChunkedLemmas.{one_more, more_of_line, line_refused}

-- a byte of an extension
pub extension_more : (framing : Framing) (fed : List ℕ) (sum room number b : ℕ) → 1 < room
    → is_extension_byte b ≡ true
    → RepresentsAt (Places.Extension room number) sum framing fed
    → RepresentsAt (Places.Extension (room - 1) number) sum framing (fed ++ b ∷ [])
extension_more framing fed sum room number b some text (chunked_is, has_room, in_line) =
    let x = in_line.holds in
    let line = in_line.line in
    let size : length (line ++ b ∷ []) ≡ length line + 1 = length-append line (b ∷ []) in (
      chunked_is,
      omega (arith, some),
      record {
        before = in_line.before;
        line = line ++ b ∷ [];
        left = in_line.left;
        parts = more_of_line in_line.before line fed b in_line.parts;
        chunks = in_line.chunks;
        holds = record {
          kept = omega (arith, size, x.kept, some);
          reads =
              λ t. ap (λ (s : List ℕ). line_of s) (one_more line t b) ∙ x.reads (b ∷ t)
              ∙ ap (λ (s : List ℕ). line_end number s) (extension_text b t text);
        };
      },
    )

-- CR after an extension
pub extension_ends : (framing : Framing) (fed : List ℕ) (sum room number b : ℕ) → 1 < room → b ≡ 13
    → RepresentsAt (Places.Extension room number) sum framing fed
    → RepresentsAt (Places.LineFeed number) sum framing (fed ++ b ∷ [])
extension_ends framing fed sum room number b some is (chunked_is, has_room, in_line) =
    let x = in_line.holds in
    let line = in_line.line in
    let size : length (line ++ b ∷ []) ≡ length line + 1 = length-append line (b ∷ []) in (
      chunked_is,
      (
        room - 1,
        omega (arith, some),
        record {
          before = in_line.before;
          line = line ++ b ∷ [];
          left = in_line.left;
          parts = more_of_line in_line.before line fed b in_line.parts;
          chunks = in_line.chunks;
          holds = record {
            kept = omega (arith, size, x.kept, some);
            reads = λ t. ap (λ (s : List ℕ). line_of s) (one_more line t b) ∙ x.reads (b ∷ t)
                ∙ ap (λ m. line_end number (behind_extension (m ∷ t))) is
                ∙ ap (λ (s : List ℕ). line_end number s) (extension_return t);
          };
        },
      ),
    )

-- the last byte that a line may have doesn't end it in an extension
pub extension_full : (framing : Framing) (fed : List ℕ) (sum room number b : ℕ) → room ≤ 1
    → RepresentsAt (Places.Extension room number) sum framing fed
    → RepresentsAt (Places.Refused bad_request) sum framing (fed ++ b ∷ [])
extension_full framing fed sum room number b last (chunked_is, has_room, in_line) =
    let x = in_line.holds in
    let line = in_line.line in
    line_refused framing in_line.before line fed in_line.left sum b bad_request chunked_is
    in_line.parts in_line.chunks
    (λ t. capped_full 256 bad_request line t b line_of (omega (arith, x.kept, last, has_room))
    (subst (λ (p : Part). (p ≡ cut) ⊎ (p ≡ wrong bad_request)) (sym (x.reads (b ∷ [])))
    (extension_last number b)))

-- any other byte in an extension is refused
pub extension_refused : (framing : Framing) (fed : List ℕ) (sum room number b : ℕ)
    → is_extension_byte b ≡ false → b ≢ 13
    → RepresentsAt (Places.Extension room number) sum framing fed
    → RepresentsAt (Places.Refused bad_request) sum framing (fed ++ b ∷ [])
extension_refused framing fed sum room number b text other (chunked_is, has_room, in_line) =
    let x = in_line.holds in
    let line = in_line.line in
    line_refused framing in_line.before line fed in_line.left sum b bad_request chunked_is
    in_line.parts in_line.chunks
    (λ t. capped_wrong 256 bad_request bad_request line t b line_of (omega (arith, x.kept, has_room))
    (λ u. x.reads (b ∷ u) ∙ ap (λ (s : List ℕ). line_end number s) (extension_other b u text)
    ∙ line_end_wrong number b u other))
