-- A chunked body, one byte further: the verdicts on it, and what a line that goes on leaves of it.
use Rattle.std.proofs.Common.{◌≡◌, ℕ, suc, ◌-◌, List, [], ◌∷◌, ◌++◌, length, refl, sym, ap, ◌∙◌, append_assoc}
use Rattle.std.proofs.Common.{length-append, arith}
use Rattle.warp_request.specs.LimitsAndWords.{body_limit}
use Rattle.warp_request.specs.declared.verdict.Framing.{Framing}
use Rattle.warp_request.specs.declared.verdict.Framing.TheVariants as Framings
use Rattle.warp_request.specs.Body.{more, refused, whole, Part, cut, wrong, past, behind_line, body_of}
use Rattle.warp_request.specs.Body.{chunk_line, chunked, chunks, verdict_of}
use Rattle.warp_request.specs.BodyReader.{HasChunks, InLine, IsDigits}

-- one byte after those fed
pub one_more : (fed t : List ℕ) (b : ℕ) → fed ++ b ∷ [] ++ t ≡ fed ++ b ∷ t
one_more fed t b = append_assoc fed (b ∷ []) t

-- ---- verdicts on chunked bodies

pub refused_at : (framing : Framing) (fed : List ℕ) (code : ℕ) → framing ≡ Framings.Chunked
    → ((t : List ℕ) → chunked (fed ++ t) ≡ wrong code)
    → (t : List ℕ) → body_of framing (fed ++ t) ≡ refused code
refused_at framing fed code is reads t =
    ap (λ (f : Framing). body_of f (fed ++ t)) is
    ∙ ap (λ (p : Part). verdict_of (length (fed ++ t)) p) (reads t)

pub whole_at : (framing : Framing) (fed : List ℕ) → framing ≡ Framings.Chunked
    → ((t : List ℕ) → chunked (fed ++ t) ≡ past 0 t)
    → (t : List ℕ) → body_of framing (fed ++ t) ≡ whole (length fed)
whole_at framing fed is reads t =
    let size = length-append fed t in
    let count : length (fed ++ t) - length t ≡ length fed = omega (arith, size) in
    ap (λ (f : Framing). body_of f (fed ++ t)) is
    ∙ ap (λ (p : Part). verdict_of (length (fed ++ t)) p) (reads t) ∙ ap whole count

pub more_at : (framing : Framing) (fed : List ℕ) → framing ≡ Framings.Chunked → chunked fed ≡ cut
    → body_of framing fed ≡ more
more_at framing fed is reads =
    ap (λ (f : Framing). body_of f fed) is ∙ ap (λ (p : Part). verdict_of (length fed) p) reads

-- ---- chunk lines

chunks_step : (left sum : ℕ) (s : List ℕ)
    → chunks (suc left) sum s ≡ behind_line (chunks left) sum (chunk_line s)
unfolding chunks
chunks_step left sum s = refl

-- what a line that goes on leaves of the chunks
pub line_leaves : (before line fed t : List ℕ) (left sum : ℕ) → fed ≡ before ++ line
    → HasChunks before left sum
    → chunked (fed ++ t) ≡ behind_line (chunks left) sum (chunk_line (line ++ t))
line_leaves before line fed t left sum parts has =
    ap (λ (f : List ℕ). chunked (f ++ t)) parts ∙ ap (λ (s : List ℕ). chunked s) (append_assoc before line t)
    ∙ has.goes_on (line ++ t) ∙ chunks_step left sum (line ++ t)

-- a byte comes to the front of a line
pub more_of_line : (before line fed : List ℕ) (b : ℕ) → fed ≡ before ++ line
    → fed ++ b ∷ [] ≡ before ++ (line ++ b ∷ [])
more_of_line before line fed b parts =
    ap (λ (f : List ℕ). f ++ b ∷ []) parts ∙ append_assoc before line (b ∷ [])

-- a line that is refused at a byte
pub line_refused : (framing : Framing) (before line fed : List ℕ) (left sum b code : ℕ)
    → framing ≡ Framings.Chunked → fed ≡ before ++ line
    → HasChunks before left sum → ((t : List ℕ) → chunk_line (line ++ b ∷ t) ≡ wrong code)
    → (t : List ℕ) → body_of framing (fed ++ b ∷ [] ++ t) ≡ refused code
line_refused framing before line fed left sum b code is parts has reads =
    refused_at framing (fed ++ b ∷ []) code is
    (λ t.
    ap (λ (s : List ℕ). chunked s) (one_more fed t b) ∙ line_leaves before line fed (b ∷ t) left sum parts has
    ∙ ap (λ (p : Part). behind_line (chunks left) sum p) (reads t))

-- the first chunk line begins
pub first_line : (sum : ℕ) → sum ≡ 0 → InLine (IsDigits 0 0) sum []
first_line sum none = record {
  before = [];
  line = [];
  left = body_limit;
  parts = refl;
  chunks = record {
    goes_on = λ t. ap (λ (n : ℕ). chunks (suc body_limit) n t) (sym none);
    enough = omega (arith, none);
    fits = omega (arith, none);
  };
  holds = record { all = refl; counted = refl; few = omega arith; means = refl; small = omega arith };
}
