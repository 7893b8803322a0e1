-- The LF of a chunk line: a chunk begins, the trailers do, or it is refused.
use Rattle.std.proofs.Common.{◌≡◌, ◌≢◌, ℕ, suc, ◌+◌, ◌-◌, ◌<◌, ◌≤◌, Bool, true, false, cond, List, [], ◌∷◌}
use Rattle.std.proofs.Common.{◌++◌, drop, refl, sym, ap, ◌∙◌, subst, arith}
use Rattle.std.specs.Prelude.{◌==◌, nat_lt}
use Rattle.std.proofs.lemmas.Bool.Decides.{nat_tests}
use Rattle.std.proofs.lemmas.List.{append-nil}
use Rattle.warp_request.specs.declared.body_place.BodyPlace.TheVariants as Places
use Rattle.warp_request.specs.declared.body_place.TrailerLine.TheVariants as Lines
use Rattle.warp_request.specs.LimitsAndWords.{body_limit}
use Rattle.warp_response.specs.Statuses.{bad_request, content_too_large}
use Rattle.warp_request.specs.declared.verdict.Framing.{Framing}
use Rattle.warp_request.specs.Body.{Part, wrong, past, behind_content, behind_line, chunked, chunks, line_end}
use Rattle.warp_request.specs.Body.{line_of, trailers}
use Rattle.warp_request.specs.BodyReader.{InLine, LeavesOfLine, RepresentsAt}
use Rattle.warp_request.proofs.BodyLemmas.{capped_past, capped_wrong, line_end_no_feed, line_end_past}
use Rattle.warp_request.proofs.ChunkedLemmas.{one_more, refused_at, line_leaves, line_refused}

-- another byte than LF is refused
pub feed_refused : (framing : Framing) (fed : List ℕ) (sum number b : ℕ) → b ≢ 10
    → RepresentsAt (Places.LineFeed number) sum framing fed
    → RepresentsAt (Places.Refused bad_request) sum framing (fed ++ b ∷ [])
feed_refused framing fed sum number b other (chunked_is, (room, has_room, in_line)) =
    let x = in_line.holds in
    let line = in_line.line in
    line_refused framing in_line.before line fed in_line.left sum b bad_request chunked_is
    in_line.parts in_line.chunks
    (λ t. capped_wrong 256 bad_request bad_request line t b line_of (omega (arith, x.kept, has_room))
    (λ u. x.reads (b ∷ u) ∙ line_end_no_feed number b u other))

-- what LF leaves of the chunks
feed_leaves : (fed : List ℕ) (sum number b room : ℕ) → b ≡ 10 → 1 ≤ room
    → (in_line : InLine (LeavesOfLine room (λ t. line_end number (13 ∷ t))) sum fed)
    → (t : List ℕ) → chunked (fed ++ b ∷ [] ++ t) ≡ behind_line (chunks in_line.left) sum (past number t)
feed_leaves fed sum number b room is has_room in_line t =
    let x = in_line.holds in
    let line = in_line.line in
    ap (λ (s : List ℕ). chunked s) (one_more fed t b)
    ∙ line_leaves in_line.before line fed (b ∷ t) in_line.left sum in_line.parts in_line.chunks
    ∙ ap (λ (p : Part). behind_line (chunks in_line.left) sum p)
    (capped_past 256 bad_request line t b number line_of (omega (arith, x.kept, has_room))
    (λ u. x.reads (b ∷ u) ∙ ap (λ m. line_end number (13 ∷ m ∷ u)) is ∙ line_end_past number u))

-- too much content
pub feed_too_large : (framing : Framing) (fed : List ℕ) (sum number b : ℕ) → b ≡ 10
    → body_limit < sum + number
    → RepresentsAt (Places.LineFeed number) sum framing fed
    → RepresentsAt (Places.Refused content_too_large) sum framing (fed ++ b ∷ [])
feed_too_large framing fed sum number b is over (chunked_is, (room, has_room, in_line)) =
    let large : nat_lt body_limit (sum + number) ≡ true = grind (arith, nat_tests) in
    refused_at framing (fed ++ b ∷ []) content_too_large chunked_is
    (λ t. feed_leaves fed sum number b room is has_room in_line t
    ∙ ap (λ (c : Bool). cond c (wrong content_too_large) (cond (number == 0) (trailers t)
    (behind_content (chunks in_line.left (sum + number)) (line_end 0 (drop number t)))))
    large)

-- the last chunk, after which the trailers begin
pub feed_last : (framing : Framing) (fed : List ℕ) (sum number b next : ℕ) → b ≡ 10
    → sum + number ≤ body_limit → number ≡ 0
    → RepresentsAt (Places.LineFeed number) sum framing fed
    → RepresentsAt (Places.Trailers 4096 Lines.Start) next framing (fed ++ b ∷ [])
feed_last framing fed sum number b next is fits none (chunked_is, (room, has_room, in_line)) =
    let small : nat_lt body_limit (sum + number) ≡ false = grind (arith, nat_tests) in
    let last : (number == 0) ≡ true = grind (arith, nat_tests) in (
      chunked_is,
      record {
        before = fed ++ b ∷ [];
        lines = [];
        parts = sym (append-nil (fed ++ b ∷ []));
        some = omega arith;
        kept = refl;
        goes_on = λ t. feed_leaves fed sum number b room is has_room in_line t
            ∙ ap (λ (c : Bool). cond c (wrong content_too_large) (cond (number == 0) (trailers t)
            (behind_content (chunks in_line.left (sum + number)) (line_end 0 (drop number t)))))
            small
            ∙ ap (λ (c : Bool). cond c (trailers t)
            (behind_content (chunks in_line.left (sum + number)) (line_end 0 (drop number t))))
            last;
        reads = λ t. refl;
      },
    )

-- a chunk with content
pub feed_chunk : (framing : Framing) (fed : List ℕ) (sum number b behind next : ℕ) → b ≡ 10
    → sum + number ≤ body_limit → number ≡ behind + 1 → next ≡ sum + number
    → RepresentsAt (Places.LineFeed number) sum framing fed
    → RepresentsAt (Places.Chunk behind) next framing (fed ++ b ∷ [])
feed_chunk framing fed sum number b behind next is fits some next_is (chunked_is, (room, has_room, in_line)) =
    subst (λ n. RepresentsAt (Places.Chunk behind) n framing (fed ++ b ∷ [])) (sym next_is) (
    let has = in_line.chunks in
    let left = in_line.left - 1 in
    let left_is : in_line.left ≡ suc left = omega (arith, has.enough, fits, some) in
    let small : nat_lt body_limit (sum + number) ≡ false = grind (arith, nat_tests) in
    let not_last : (number == 0) ≡ false = grind (arith, nat_tests) in (
      chunked_is,
      record {
        left = left;
        reads = λ t. feed_leaves fed sum number b room is has_room in_line t
            ∙ ap (λ (c : Bool). cond c (wrong content_too_large) (cond (number == 0) (trailers t)
            (behind_content (chunks in_line.left (sum + number)) (line_end 0 (drop number t)))))
            small
            ∙ ap (λ (c : Bool). cond c (trailers t)
            (behind_content (chunks in_line.left (sum + number)) (line_end 0 (drop number t))))
            not_last
            ∙ ap (λ n. behind_content (chunks n (sum + number)) (line_end 0 (drop number t))) left_is
            ∙ ap (λ n. behind_content (chunks (suc left) (sum + number)) (line_end 0 (drop n t))) some;
        enough = omega (arith, has.enough, left_is, some);
        fits = fits;
      },
    )
    )
