-- What a reader says of the bytes of a body so far.
use Rattle.std.proofs.Common.{◌≡◌, ℕ, suc, ◌+◌, ◌-◌, ◌<◌, ◌≤◌, Bool, true, false, cond, List, [], ◌∷◌, ◌++◌}
use Rattle.std.proofs.Common.{length, take, drop, refl, sym, ap, ◌∙◌, append_assoc, length-append, arith}
use Rattle.std.specs.Prelude.{nat_le}
use Rattle.std.proofs.lemmas.Bool.Decides.{nat_tests}
use Rattle.std.proofs.lemmas.List.{append-nil, take_all, take-append-drop}
use Rattle.std.proofs.Math.Seq.{drop-nil}
use Rattle.warp_request.specs.declared.body_place.BodyPlace.{BodyPlace}
use Rattle.warp_request.specs.declared.body_place.BodyPlace.TheVariants as Places
use Rattle.warp_request.specs.declared.body_reader.BodyState.TheVariants as States
use Rattle.warp_response.specs.Statuses.{bad_request, header_fields_too_large}
use Rattle.warp_request.specs.declared.verdict.Framing.{Framing}
use Rattle.warp_request.specs.declared.verdict.Framing.TheVariants as Framings
use Rattle.warp_request.specs.Body.{more, whole, Part, cut, behind_content, behind_extension, behind_line}
use Rattle.warp_request.specs.Body.{body_of, chunk_line, chunked, chunks, line_end, line_of, section_of}
use Rattle.warp_request.specs.BodyReader.{InContent, InLine, IsDigits, LeavesOfLine, RepresentsAt, state_at}
use Rattle.warp_request.specs.BodyReader.{state_verdict}
use Rattle.warp_request.proofs.BodyLemmas.{capped_cut, digits_cut, extension_nil, line_end_return}
use Rattle.warp_request.specs.BodyGrowthLaws.{line_end_nil}
use Rattle.warp_request.proofs.ChunkedLemmas.{more_at, line_leaves}
use Rattle.warp_request.proofs.ContentLemmas.{taken_size, content_part, chunk_part}
use Rattle.warp_request.proofs.TrailerLemmas.{section_at_nil}

-- more of a line is waited for
line_cut : (framing : Framing) (sum : ℕ) (fed : List ℕ) (Holds : List ℕ → Type 0)
    → framing ≡ Framings.Chunked → (x : InLine Holds sum fed)
    → length x.line < 256 → line_of x.line ≡ cut → body_of framing fed ≡ more
line_cut framing sum fed Holds is x short reads =
    more_at framing fed is
    (ap (λ (s : List ℕ). chunked s) (sym (append-nil fed))
    ∙ line_leaves x.before x.line fed [] x.left sum x.parts x.chunks
    ∙ ap (λ (s : List ℕ). behind_line (chunks x.left) sum (chunk_line s)) (append-nil x.line)
    ∙ ap (λ (p : Part). behind_line (chunks x.left) sum p)
    (capped_cut 256 bad_request x.line line_of short reads))

-- more of a chunk is waited for
content_cut : (framing : Framing) (sum : ℕ) (fed : List ℕ) (rest : List ℕ → List ℕ)
    → framing ≡ Framings.Chunked → (x : InContent rest sum fed)
    → line_end 0 (rest []) ≡ cut → body_of framing fed ≡ more
content_cut framing sum fed rest is x reads =
    more_at framing fed is
    (ap (λ (s : List ℕ). chunked s) (sym (append-nil fed)) ∙ x.reads []
    ∙ ap (λ (p : Part). behind_content (chunks (suc x.left) sum) p) reads)

-- where a reader waits for more bytes, the body isn't whole
open_is_more : (place : BodyPlace) (sum : ℕ) (framing : Framing) (fed : List ℕ)
    → RepresentsAt place sum framing fed → state_at place ≡ States.More
    → body_of framing fed ≡ more
open_is_more (Places.Content behind) sum framing fed is opens =
    let short : nat_le (length fed + (behind + 1)) (length fed) ≡ false = grind (arith, nat_tests) in
    ap (λ (f : Framing). body_of f fed) is
    ∙ ap (λ (c : Bool). cond c (whole (length fed + (behind + 1))) more) short
open_is_more (Places.Size count number) sum framing fed (is, x) opens =
    let h = x.holds in
    let few : length x.line ≤ 8 = omega (arith, h.counted, h.few) in
    line_cut framing sum fed (IsDigits count number) is x (omega (arith, few)) (digits_cut x.line h.all few)
open_is_more (Places.Extension room number) sum framing fed (is, some, x) opens =
    let h = x.holds in
    line_cut framing sum fed (LeavesOfLine room (λ t. line_end number (behind_extension t))) is x
    (omega (arith, h.kept, some))
    (ap (λ (s : List ℕ). line_of s) (sym (append-nil x.line))
    ∙ h.reads [] ∙ ap (λ (s : List ℕ). line_end number s) extension_nil ∙ line_end_nil number)
open_is_more (Places.LineFeed number) sum framing fed (is, (room, some, x)) opens =
    let h = x.holds in
    line_cut framing sum fed (LeavesOfLine room (λ t. line_end number (13 ∷ t))) is x
    (omega (arith, h.kept, some))
    (ap (λ (s : List ℕ). line_of s) (sym (append-nil x.line)) ∙ h.reads [] ∙ line_end_return number)
open_is_more (Places.Chunk behind) sum framing fed (is, x) opens =
    content_cut framing sum fed (λ t. drop (behind + 1) t) is x
    (ap (λ (s : List ℕ). line_end 0 s) (drop-nil (behind + 1)) ∙ line_end_nil 0)
open_is_more Places.ChunkReturn sum framing fed (is, x) opens =
    content_cut framing sum fed (λ t. t) is x (line_end_nil 0)
open_is_more Places.ChunkLineFeed sum framing fed (is, x) opens =
    content_cut framing sum fed (λ t. 13 ∷ t) is x (line_end_return 0)
open_is_more (Places.Trailers room line) sum framing fed (is, x) opens =
    more_at framing fed is
    (ap (λ (s : List ℕ). chunked s) (x.parts) ∙ x.goes_on x.lines
    ∙ capped_cut 4096 header_fields_too_large x.lines (section_of true) (omega (arith, x.kept, x.some))
    (ap (λ (s : List ℕ). section_of true s) (sym (append-nil x.lines)) ∙ x.reads [] ∙ section_at_nil line))
open_is_more Places.Whole sum framing fed stands opens = absurd cc
open_is_more (Places.Refused code) sum framing fed stands opens = absurd cc

-- before its next byte an open body isn't settled
pub open_before : (place : BodyPlace) (sum : ℕ) (framing : Framing) (fed bytes : List ℕ) (n : ℕ)
    → n ≡ 0 → RepresentsAt place sum framing fed
    → state_at place ≡ States.More → body_of framing (fed ++ take n bytes) ≡ more
open_before place sum framing fed bytes n none stands opens =
    ap (λ (k : ℕ). body_of framing (fed ++ take k bytes)) none
    ∙ ap (λ (t : List ℕ). body_of framing t) (append-nil fed)
    ∙ open_is_more place sum framing fed stands opens

-- nor is it within its content
pub content_before : (framing : Framing) (fed bytes : List ℕ) (sum behind n : ℕ)
    → n ≤ length bytes → n ≤ behind
    → RepresentsAt (Places.Content behind) sum framing fed → body_of framing (fed ++ take n bytes) ≡ more
content_before framing fed bytes sum behind n fits within stands =
    open_is_more (Places.Content (behind - n)) sum framing (fed ++ take n bytes)
    (content_part framing fed bytes sum behind n (behind - n) fits (omega (arith, within)) stands) refl

-- nor within that of a chunk
pub chunk_before : (framing : Framing) (fed bytes : List ℕ) (sum behind n : ℕ) → n ≤ length bytes → n ≤ behind
    → RepresentsAt (Places.Chunk behind) sum framing fed → body_of framing (fed ++ take n bytes) ≡ more
chunk_before framing fed bytes sum behind n fits within stands =
    open_is_more (Places.Chunk (behind - n)) sum framing (fed ++ take n bytes)
    (chunk_part framing fed bytes sum behind n (behind - n) fits (omega (arith, within)) stands) refl

-- a piece that was used in part, with the rest of it
whole_piece : (fed piece : List ℕ) (used : ℕ) → fed ++ take used piece ++ drop used piece ≡ fed ++ piece
whole_piece fed piece used =
    append_assoc fed (take used piece) (drop used piece)
    ∙ ap (λ (s : List ℕ). fed ++ s) (take-append-drop used piece)

says_more : (place : BodyPlace) (sum : ℕ) (framing : Framing) (fed piece : List ℕ) (used : ℕ)
    → RepresentsAt place sum framing (fed ++ take used piece)
    → state_at place ≡ States.More → used ≡ length piece → body_of framing (fed ++ piece) ≡ more
says_more place sum framing fed piece used stands opens all =
    let whole_is : take used piece ≡ piece = take_all used piece (omega (arith, all)) in
    ap (λ (s : List ℕ). body_of framing (fed ++ s)) (sym whole_is)
    ∙ open_is_more place sum framing (fed ++ take used piece) stands opens

-- what a reader says after a piece is said of all bytes so far
pub says_of_all : (place : BodyPlace) (sum : ℕ) (framing : Framing) (fed piece : List ℕ) (used : ℕ)
    → used ≤ length piece
    → RepresentsAt place sum framing (fed ++ take used piece)
    → (state_at place ≡ States.More → used ≡ length piece)
    → body_of framing (fed ++ piece) ≡ state_verdict (state_at place) (length fed + used)
says_of_all Places.Whole sum framing fed piece used within stands all =
    let size = length-append fed (take used piece) in
    let taken = taken_size used piece within in
    let count : length (fed ++ take used piece) ≡ length fed + used = omega (arith, size, taken) in
    ap (λ (s : List ℕ). body_of framing s) (sym (whole_piece fed piece used))
    ∙ stands (drop used piece) ∙ ap whole count
says_of_all (Places.Refused code) sum framing fed piece used within stands all =
    ap (λ (s : List ℕ). body_of framing s) (sym (whole_piece fed piece used)) ∙ stands (drop used piece)
says_of_all (Places.Content behind) sum framing fed piece used within stands all =
    says_more (Places.Content behind) sum framing fed piece used stands refl (all refl)
says_of_all (Places.Size count number) sum framing fed piece used within stands all =
    says_more (Places.Size count number) sum framing fed piece used stands refl (all refl)
says_of_all (Places.Extension room number) sum framing fed piece used within stands all =
    says_more (Places.Extension room number) sum framing fed piece used stands refl (all refl)
says_of_all (Places.LineFeed number) sum framing fed piece used within stands all =
    says_more (Places.LineFeed number) sum framing fed piece used stands refl (all refl)
says_of_all (Places.Chunk behind) sum framing fed piece used within stands all =
    says_more (Places.Chunk behind) sum framing fed piece used stands refl (all refl)
says_of_all Places.ChunkReturn sum framing fed piece used within stands all =
    says_more Places.ChunkReturn sum framing fed piece used stands refl (all refl)
says_of_all Places.ChunkLineFeed sum framing fed piece used within stands all =
    says_more Places.ChunkLineFeed sum framing fed piece used stands refl (all refl)
says_of_all (Places.Trailers room line) sum framing fed piece used within stands all =
    says_more (Places.Trailers room line) sum framing fed piece used stands refl (all refl)
