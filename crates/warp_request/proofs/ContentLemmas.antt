-- Content of a known length and that of a chunk, a piece further, and the line end after a chunk.
use Rattle.std.proofs.Common.{◌≡◌, ◌≢◌, ℕ, suc, ◌+◌, ◌-◌, ◌≤◌, Bool, true, cond, List, [], ◌∷◌, ◌++◌, length}
use Rattle.std.proofs.Common.{take, drop, refl, sym, ap, ◌∙◌, append_assoc, length-append, arith}
use Rattle.std.specs.Prelude.{nat_le}
use Rattle.std.proofs.lemmas.Bool.Decides.{nat_tests}
use Rattle.std.proofs.lemmas.Grind.{common_steps}
use Rattle.std.proofs.lemmas.List.{append-nil}
use Rattle.std.proofs.Math.Seq.{drop-append-add}
use Rattle.warp_request.specs.declared.body_place.BodyPlace.TheVariants as Places
use Rattle.warp_response.specs.Statuses.{bad_request}
use Rattle.warp_request.specs.declared.verdict.Framing.{Framing}
use Rattle.warp_request.specs.declared.verdict.Framing.TheVariants as Framings
use Rattle.warp_request.specs.Body.{more, whole, Part, behind_content, body_of, chunked, chunks, line_end}
use Rattle.warp_request.specs.BodyReader.{RepresentsAt}
use Rattle.warp_request.proofs.BodyLemmas.{line_end_no_feed, line_end_past}
use Rattle.warp_request.specs.BodyGrowthLaws.{line_end_wrong}
use Rattle.warp_request.proofs.ChunkedLemmas.{one_more, refused_at}

-- how much of content that is left is used by a part of it
content_kept : (bytes t : List ℕ) (n k : ℕ) → length bytes ≡ n → n ≤ k → drop k (bytes ++ t) ≡ drop (k - n) t
content_kept bytes t n k size fits =
    let k_is : k ≡ length bytes + (k - n) = omega (arith, size, fits) in
    ap (λ m. drop m (bytes ++ t)) k_is ∙ drop-append-add bytes t (k - n)

pub taken_size : (n : ℕ) (bytes : List ℕ) → n ≤ length bytes → length (take n bytes) ≡ n
taken_size n bytes fits = grind (arith, common_steps)

-- a part of a content of a known length
pub content_part : (framing : Framing) (fed bytes : List ℕ) (sum behind used rest : ℕ)
    → used ≤ length bytes → rest + used ≡ behind
    → RepresentsAt (Places.Content behind) sum framing fed
    → RepresentsAt (Places.Content rest) sum framing (fed ++ take used bytes)
content_part framing fed bytes sum behind used rest fits left is =
    let size = length-append fed (take used bytes) in
    let taken = taken_size used bytes fits in
    let same : length fed + (behind + 1) ≡ length (fed ++ take used bytes) + (rest + 1) =
    omega (arith, size, taken, left) in
    is ∙ ap Framings.Length same

-- the last part of a content of a known length
pub content_done : (framing : Framing) (fed bytes : List ℕ) (sum behind used : ℕ)
    → used ≤ length bytes → used ≡ behind + 1
    → RepresentsAt (Places.Content behind) sum framing fed
    → RepresentsAt Places.Whole sum framing (fed ++ take used bytes)
content_done framing fed bytes sum behind used fits all is t =
    let fed_now = fed ++ take used bytes in
    let size = length-append fed (take used bytes) in
    let taken = taken_size used bytes fits in
    let same : length fed + (behind + 1) ≡ length fed_now = omega (arith, size, taken, all) in
    let total = length-append fed_now t in
    let enough : nat_le (length fed_now) (length (fed_now ++ t)) ≡ true = grind (arith, nat_tests) in
    ap (λ (f : Framing). body_of f (fed_now ++ t)) (is ∙ ap Framings.Length same)
    ∙ ap (λ (c : Bool). cond c (whole (length fed_now)) more) enough

-- a part of a chunk
pub chunk_part : (framing : Framing) (fed bytes : List ℕ) (sum behind used rest : ℕ)
    → used ≤ length bytes → rest + used ≡ behind
    → RepresentsAt (Places.Chunk behind) sum framing fed
    → RepresentsAt (Places.Chunk rest) sum framing (fed ++ take used bytes)
chunk_part framing fed bytes sum behind used rest fits left (chunked_is, x) =
    let taken = taken_size used bytes fits in
    let k_is : behind + 1 - used ≡ rest + 1 = omega (arith, left) in (
      chunked_is,
      record {
        left = x.left;
        reads =
            λ t. ap (λ (s : List ℕ). chunked s) (append_assoc fed (take used bytes) t)
            ∙ x.reads (take used bytes ++ t)
            ∙ ap (λ (s : List ℕ). behind_content (chunks (suc x.left) sum) (line_end 0 s))
            (content_kept (take used bytes) t used (behind + 1) taken (omega (arith, left))
            ∙ ap (λ n. drop n t) k_is);
        enough = x.enough;
        fits = x.fits;
      },
    )

-- the last part of a chunk
pub chunk_done : (framing : Framing) (fed bytes : List ℕ) (sum behind used : ℕ)
    → used ≤ length bytes → used ≡ behind + 1
    → RepresentsAt (Places.Chunk behind) sum framing fed
    → RepresentsAt Places.ChunkReturn sum framing (fed ++ take used bytes)
chunk_done framing fed bytes sum behind used fits all (chunked_is, x) =
    let taken = taken_size used bytes fits in
    let none : behind + 1 - used ≡ 0 = omega (arith, all) in (
      chunked_is,
      record {
        left = x.left;
        reads =
            λ t. ap (λ (s : List ℕ). chunked s) (append_assoc fed (take used bytes) t)
            ∙ x.reads (take used bytes ++ t)
            ∙ ap (λ (s : List ℕ). behind_content (chunks (suc x.left) sum) (line_end 0 s))
            (content_kept (take used bytes) t used (behind + 1) taken (omega (arith, all))
            ∙ ap (λ n. drop n t) none);
        enough = x.enough;
        fits = x.fits;
      },
    )

-- CR after a chunk
pub chunk_return : (framing : Framing) (fed : List ℕ) (sum b : ℕ) → b ≡ 13
    → RepresentsAt Places.ChunkReturn sum framing fed
    → RepresentsAt Places.ChunkLineFeed sum framing (fed ++ b ∷ [])
chunk_return framing fed sum b is (chunked_is, x) = (
  chunked_is,
  record {
    left = x.left;
    reads = λ t. ap (λ (s : List ℕ). chunked s) (one_more fed t b) ∙ x.reads (b ∷ t)
        ∙ ap (λ m. behind_content (chunks (suc x.left) sum) (line_end 0 (m ∷ t))) is;
    enough = x.enough;
    fits = x.fits;
  },
)

-- another byte after a chunk
pub chunk_refused : (framing : Framing) (fed : List ℕ) (sum b : ℕ) → b ≢ 13
    → RepresentsAt Places.ChunkReturn sum framing fed
    → RepresentsAt (Places.Refused bad_request) sum framing (fed ++ b ∷ [])
chunk_refused framing fed sum b other (chunked_is, x) =
    refused_at framing (fed ++ b ∷ []) bad_request chunked_is
    (λ t. ap (λ (s : List ℕ). chunked s) (one_more fed t b) ∙ x.reads (b ∷ t)
    ∙ ap (λ (p : Part). behind_content (chunks (suc x.left) sum) p) (line_end_wrong 0 b t other))

-- LF after the CR of a chunk, and the next line begins
pub chunk_feed : (framing : Framing) (fed : List ℕ) (sum b : ℕ) → b ≡ 10
    → RepresentsAt Places.ChunkLineFeed sum framing fed
    → RepresentsAt (Places.Size 0 0) sum framing (fed ++ b ∷ [])
chunk_feed framing fed sum b is (chunked_is, x) = (
  chunked_is,
  record {
    before = fed ++ b ∷ [];
    line = [];
    left = x.left;
    parts = sym (append-nil (fed ++ b ∷ []));
    chunks = record {
      goes_on = λ t. ap (λ (s : List ℕ). chunked s) (one_more fed t b) ∙ x.reads (b ∷ t)
          ∙ ap (λ m. behind_content (chunks (suc x.left) sum) (line_end 0 (13 ∷ m ∷ t))) is
          ∙ ap (λ (p : Part). behind_content (chunks (suc x.left) sum) p) (line_end_past 0 t);
      enough = x.enough;
      fits = x.fits;
    };
    holds = record { all = refl; counted = refl; few = omega arith; means = refl; small = omega arith };
  },
)

-- another byte after the CR of a chunk
pub chunk_no_feed : (framing : Framing) (fed : List ℕ) (sum b : ℕ) → b ≢ 10
    → RepresentsAt Places.ChunkLineFeed sum framing fed
    → RepresentsAt (Places.Refused bad_request) sum framing (fed ++ b ∷ [])
chunk_no_feed framing fed sum b other (chunked_is, x) =
    refused_at framing (fed ++ b ∷ []) bad_request chunked_is
    (λ t. ap (λ (s : List ℕ). chunked s) (one_more fed t b) ∙ x.reads (b ∷ t)
    ∙ ap (λ (p : Part). behind_content (chunks (suc x.left) sum) p) (line_end_no_feed 0 b t other))
