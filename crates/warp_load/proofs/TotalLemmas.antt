-- What all answers to a connection of the load add up to.
use Rattle.std.proofs.Common.{◌≡◌, ℕ, zero, suc, ◌+◌, ◌<◌, ◌≤◌, true, false, ◌==◌, List, [], ◌∷◌, ◌++◌}
use Rattle.std.proofs.Common.{length, drop, replicate, refl, sym, ap, ◌∙◌, arith, length-append, append-nil}
use Rattle.std.proofs.Common.{add-zero, eq-or-lt_of_le, inl, inr}
use Rattle.std.specs.Prelude.{if◌then◌else◌, ◌⊎◌, sum_by}
use Rattle.std.specs.List.{flat_map}
use Rattle.std.proofs.lemmas.Bool.Decides.{nat_tests}
use Rattle.std.proofs.Math.Seq.{drop-append_seam}
use Rattle.std.proofs.lemmas.List.FromFn.{length-map-range_with_len}
use Rattle.std.proofs.lemmas.List.Sums.{sum_by-cons}
use Rattle.warp_request.specs.declared.verdict.Framing.{Framing}
use Rattle.warp_request.specs.BodyLaws.{BodyStaysSettled}
use Rattle.warp_request.specs.Laws.{StaysSettled}
use Rattle.warp_response.specs.declared.response.LastWord.TheVariants.{Nothing, Close}
use Rattle.warp_response.specs.Text.{answer_text}
use Rattle.conn_loop.specs.Answers.{closes, last_word, answers_at, answers_within, finals_at, finals_within}
use Rattle.conn_loop.specs.Answers.{finals_of, rest_at, rest_within, rest_of}
use Rattle.conn_loop.specs.Replying.{Replying, folder_replies}
use Rattle.conn_loop.specs.FirstRequest.{FirstRequest, first_request}
use Rattle.warp_load.specs.declared.request_kind.RequestKind.{RequestKind}
use Rattle.warp_load.specs.LoadFolder.{load_folder, load_moment}
use Rattle.warp_load.specs.LoadScripts.{answer_length, closing_length, load_room}
use Rattle.warp_load.specs.LoadTotals.{load_answers}
use Rattle.warp_load.specs.Requests.{load_input, request_bytes, request_kind, request_kinds}
use Rattle.warp_load.proofs.ReadLemmas.{asked_by, first_request_is, interim_is, nothing_is, no_bytes_wait}
use Rattle.warp_load.proofs.ReadLemmas.{keeps_is, minor_is}
use Rattle.warp_load.proofs.ReplyLemmas.{reply_by, reply_is, length-answer, length-closing}

-- ---- whether an answer closes the connection

closes_last : (k : RequestKind) → closes (asked_by k) 0 ≡ true
unfolding closes
closes_last k = rw (keeps_is k) refl

closes_no : (k : RequestKind) (left : ℕ) → 0 < left → closes (asked_by k) left ≡ false
unfolding closes
closes_no k left some =
    let test : (left == 0) ≡ false = grind (arith, nat_tests) in
    rw (keeps_is k, test) refl

says_close : (k : RequestKind) → last_word (asked_by k) 0 ≡ Close
unfolding last_word
says_close k = rw (closes_last k) refl

says_nothing : (k : RequestKind) (left : ℕ) → 0 < left → last_word (asked_by k) left ≡ Nothing
unfolding last_word
says_nothing k left some = rw (closes_no k left some, minor_is k) refl

-- ---- sums over kinds

-- the lengths of the answers to requests of these kinds
unfoldable pub lengths : List RequestKind → ℕ
lengths [] = 0
lengths (k ∷ ks) = answer_length k + lengths ks

pub lengths_sum : (ks : List RequestKind) → lengths ks ≡ sum_by answer_length ks
unfolding lengths
lengths_sum [] = refl
lengths_sum (k ∷ ks) =
    ap (λ (n : ℕ). answer_length k + n) (lengths_sum ks) ∙ sym (sum_by-cons answer_length k ks)

abbrev pub replies : Replying
replies = folder_replies load_folder

module _ (head_stays : (s : List ℕ) → StaysSettled s)
    (body_stays : (framing : Framing) (s : List ℕ) → BodyStaysSettled framing s) where
  -- one request more at the front
  within_next : (k : RequestKind) (rest : List ℕ) (left m : ℕ) (ms : List ℕ)
      → answers_within replies (suc left) (request_bytes k ++ rest) (m ∷ ms)
      ≡ answer_text (reply_by k) m (last_word (asked_by k) left)
      ++ (if closes (asked_by k) left then [] else answers_within replies left rest ms)
  unfolding answers_within answers_at
  within_next k rest left m ms =
      let s = request_bytes k ++ rest in
      ap (λ (t : List ℕ). t ++ answers_at replies (first_request s) left
      (m ∷ ms) (λ len later. answers_within replies left (drop len s) later))
      (interim_is head_stays body_stays k rest)
      ∙ ap (λ (v : FirstRequest).
      answers_at replies v left (m ∷ ms) (λ len later. answers_within replies left (drop len s) later))
      (first_request_is head_stays body_stays k rest)
      ∙ ap (λ (t : List ℕ). answer_text (replies (asked_by k)) m (last_word (asked_by k) left)
      ++ (if closes (asked_by k) left then [] else answers_within replies left t ms))
      (drop-append_seam (request_bytes k) rest)
      ∙ ap (λ (r : _). answer_text r m (last_word (asked_by k) left)
      ++ (if closes (asked_by k) left then [] else answers_within replies left rest ms))
      (reply_is k)

  -- an answer that goes on
  length_on : (k : RequestKind) (rest : List ℕ) (left : ℕ) (ms : List ℕ) → 0 < left
      → length (answers_within replies (suc left) (request_bytes k ++ rest) (load_moment ∷ ms))
      ≡ answer_length k + length (answers_within replies left rest ms)
  length_on k rest left ms some =
      ap (λ (t : List ℕ). length t)
      (within_next k rest left load_moment ms ∙ rw (closes_no k left some, says_nothing k left some) refl)
      ∙ length-append (answer_text (reply_by k) load_moment Nothing) (answers_within replies left rest ms)
      ∙ ap (λ (n : ℕ). n + length (answers_within replies left rest ms)) (length-answer k)

  -- the last one that there may be
  length_last : (k : RequestKind) (rest ms : List ℕ)
      → length (answers_within replies 1 (request_bytes k ++ rest) (load_moment ∷ ms)) ≡ answer_length k + 19
  length_last k rest ms =
      ap (λ (t : List ℕ). length t) (within_next k rest 0 load_moment ms
      ∙ rw (closes_last k, says_close k) (append-nil (answer_text (reply_by k) load_moment Close)))
      ∙ length-closing k

  nothing_within : (left : ℕ) (ms : List ℕ) → answers_within replies left [] ms ≡ []
  unfolding answers_within answers_at
  nothing_within zero ms = refl
  nothing_within (suc left) ms = rw (no_bytes_wait, nothing_is) refl

  -- fewer requests than there may be final answers
  pub length_fewer : (ks : List RequestKind) (left : ℕ) → length ks < left
      → length (answers_within replies left (flat_map request_bytes ks) (replicate left load_moment))
      ≡ lengths ks
  unfolding lengths
  length_fewer [] left few = ap (λ (t : List ℕ). length t) (nothing_within left (replicate left load_moment))
  length_fewer (k ∷ ks) zero few = absurd (omega (arith, few))
  length_fewer (k ∷ ks) (suc left) few =
      length_on k (flat_map request_bytes ks) left (replicate left load_moment) (omega (arith, few))
      ∙ ap (λ (n : ℕ). answer_length k + n) (length_fewer ks left (omega (arith, few)))

  -- as many
  pub length_full : (ks : List RequestKind) (left : ℕ) → length ks ≡ left → 0 < left
      → length (answers_within replies left (flat_map request_bytes ks) (replicate left load_moment))
      ≡ lengths ks + 19
  unfolding lengths
  length_full [] left full some = absurd (omega (arith, full, some))
  length_full (k ∷ ks) zero full some = absurd (omega (arith, some))
  length_full (k ∷ []) (suc zero) full some =
      length_last k [] [] ∙ (let e : answer_length k + 19 ≡ answer_length k + 0 + 19 = omega arith in e)
  length_full (k ∷ (j ∷ ks)) (suc zero) full some = absurd (omega (arith, full))
  length_full (k ∷ ks) (suc (suc left)) full some =
      length_on k (flat_map request_bytes ks) (suc left) (replicate (suc left) load_moment) (omega arith)
      ∙ ap (λ (n : ℕ). answer_length k + n) (length_full ks (suc left) (omega (arith, full)) (omega arith))
      ∙ (let e : answer_length k + (lengths ks + 19) ≡ answer_length k + lengths ks + 19 = omega arith in e)

  finals_next : (k : RequestKind) (rest : List ℕ) (left : ℕ)
      → finals_within (suc left) (request_bytes k ++ rest)
      ≡ 1 + (if closes (asked_by k) left then 0 else finals_within left rest)
  unfolding finals_within finals_at
  finals_next k rest left =
      let s = request_bytes k ++ rest in
      ap (λ (v : FirstRequest). finals_at v left (λ len. finals_within left (drop len s)))
      (first_request_is head_stays body_stays k rest)
      ∙ ap (λ (t : List ℕ). 1 + (if closes (asked_by k) left then 0 else finals_within left t))
      (drop-append_seam (request_bytes k) rest)

  nothing_final : (left : ℕ) → finals_within left [] ≡ 0
  unfolding finals_within finals_at
  nothing_final zero = refl
  nothing_final (suc left) = rw nothing_is refl

  pub finals_are : (ks : List RequestKind) (left : ℕ) → length ks ≤ left
      → finals_within left (flat_map request_bytes ks) ≡ length ks
  finals_are [] left few = nothing_final left
  finals_are (k ∷ ks) zero few = absurd (omega (arith, few))
  finals_are (k ∷ []) (suc zero) few = finals_next k [] 0 ∙ rw (closes_last k) refl
  finals_are (k ∷ (j ∷ ks)) (suc zero) few = absurd (omega (arith, few))
  finals_are (k ∷ ks) (suc (suc left)) few =
      finals_next k (flat_map request_bytes ks) (suc left)
      ∙ rw (closes_no k (suc left) (omega arith)) (let again =
      finals_are ks (suc left) (omega (arith, few)) in omega (arith, again))

  rest_next : (k : RequestKind) (rest : List ℕ) (left : ℕ) → rest_within (suc left) (request_bytes k ++ rest)
      ≡ (if closes (asked_by k) left then rest else rest_within left rest)
  unfolding rest_within rest_at
  rest_next k rest left =
      let s = request_bytes k ++ rest in
      ap (λ (v : FirstRequest). rest_at s v left (λ len. rest_within left (drop len s)))
      (first_request_is head_stays body_stays k rest)
      ∙ ap (λ (t : List ℕ). if closes (asked_by k) left then t else rest_within left t)
      (drop-append_seam (request_bytes k) rest)

  nothing_left : (left : ℕ) → rest_within left [] ≡ []
  unfolding rest_within rest_at
  nothing_left zero = refl
  nothing_left (suc left) = rw nothing_is refl

  pub rest_none : (ks : List RequestKind) (left : ℕ) → length ks ≤ left
      → rest_within left (flat_map request_bytes ks) ≡ []
  rest_none [] left few = nothing_left left
  rest_none (k ∷ ks) zero few = absurd (omega (arith, few))
  rest_none (k ∷ []) (suc zero) few = rest_next k [] 0 ∙ rw (closes_last k) refl
  rest_none (k ∷ (j ∷ ks)) (suc zero) few = absurd (omega (arith, few))
  rest_none (k ∷ ks) (suc (suc left)) few =
      rest_next k (flat_map request_bytes ks) (suc left)
      ∙ rw (closes_no k (suc left) (omega arith)) (rest_none ks (suc left) (omega (arith, few)))

  -- no byte of a connection's input is after its requests
  pub rest_load : (seed requests i : ℕ) → requests ≤ 1000 → rest_of (load_input seed requests i) ≡ []
  unfolding load_input
  rest_load seed requests i fits =
      let kinds = request_kinds seed requests i in
      let count : length kinds ≡ requests =
      length-map-range_with_len (λ j. request_kind seed i j) 0 requests in
      rest_none kinds 1000 (omega (arith, count, fits))

  -- each request of a connection gets a final answer
  pub finals_load : (seed requests i : ℕ) → requests ≤ 1000
      → finals_of (load_input seed requests i) ≡ requests
  unfolding load_input
  finals_load seed requests i fits =
      let kinds = request_kinds seed requests i in
      let count : length kinds ≡ requests =
      length-map-range_with_len (λ j. request_kind seed i j) 0 requests in
      finals_are kinds 1000 (omega (arith, count, fits)) ∙ count

  length_by : (seed requests i : ℕ) → (requests ≡ 1000) ⊎ (requests < 1000)
      → length (load_answers seed requests i) ≡ load_room seed requests i
  unfolding load_answers load_room load_input
  length_by seed requests i (inl full) =
      let kinds = request_kinds seed requests i in
      let count : length kinds ≡ requests =
      length-map-range_with_len (λ j. request_kind seed i j) 0 requests in
      let closes : closing_length requests ≡ 19 =
      let test : (requests == 1000) ≡ true = grind (arith, nat_tests) in
      rw test refl in
      length_full kinds 1000 (count ∙ full) (omega arith) ∙ ap (λ (n : ℕ). n + 19) (lengths_sum kinds)
      ∙ ap (λ (n : ℕ). sum_by answer_length kinds + n) (sym closes)
  length_by seed requests i (inr fewer) =
      let kinds = request_kinds seed requests i in
      let count : length kinds ≡ requests =
      length-map-range_with_len (λ j. request_kind seed i j) 0 requests in
      let closes : closing_length requests ≡ 0 =
      let test : (requests == 1000) ≡ false = grind (arith, nat_tests) in
      rw test refl in
      length_fewer kinds 1000 (omega (arith, count, fewer)) ∙ lengths_sum kinds
      ∙ sym (ap (λ (n : ℕ). sum_by answer_length kinds + n) closes ∙ add-zero (sum_by answer_length kinds))

  -- the answers to a connection have just the bytes for which its script has room
  pub length_load : (seed requests i : ℕ) → requests ≤ 1000
      → length (load_answers seed requests i) ≡ load_room seed requests i
  length_load seed requests i fits = length_by seed requests i (eq-or-lt_of_le fits)
