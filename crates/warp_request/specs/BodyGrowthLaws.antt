-- Inner: laws that crates above cite, or that those stand on: a body that is whole or refused stays so,
-- whatever bytes follow, and a whole one is in its bytes.
use Rattle.std.proofs.Common.{◌≡◌, ◌≢◌, ℕ, zero, suc, ◌+◌, ◌-◌, ◌<◌, ◌≤◌, ◌⊎◌, Bool, true, false, cond, List}
use Rattle.std.proofs.Common.{[], ◌∷◌, ◌++◌, length, take, drop, refl, sym, ap, ◌∙◌, inl, inr, length-append}
use Rattle.std.proofs.Common.{length-take, arith, None}
use Rattle.std.specs.Prelude.{◌&&◌, ◌||◌, ◌==◌, nat_lt, nat_le}
use Rattle.std.specs.List.{prefix_len}
use Rattle.std.proofs.lemmas.Bool.{cases_lt}
use Rattle.std.proofs.lemmas.Bool.Decides.{nat_tests}
use Rattle.std.proofs.lemmas.List.{drop_all, take_all, take-append-le, drop-append-le}
use Rattle.std.proofs.Math.Seq.{take-append-add}
use Rattle.warp_request.specs.LimitsAndWords.{body_limit}
use Rattle.warp_response.specs.Statuses.{bad_request, content_too_large, header_fields_too_large}
use Rattle.warp_request.specs.declared.verdict.Framing.{Framing}
use Rattle.warp_request.specs.declared.verdict.Framing.TheVariants as Framings
use Rattle.warp_request.specs.Body.{BodyVerdict, more, whole, Part, cut, wrong, past, behind_content}
use Rattle.warp_request.specs.Body.{behind_digits, behind_extension, behind_line, body_of, capped, chunk_line}
use Rattle.warp_request.specs.Body.{chunked, chunks, is_extension_byte, is_hex, line_end, line_of, number_of}
use Rattle.warp_request.specs.Body.{opens_extension, section_of, trailers, verdict_of}

-- digits that nothing follows yet are waited for
pub digits_nil : (digits : List ℕ) → behind_digits digits [] ≡ cut
unfolding behind_digits
digits_nil [] = refl
digits_nil (d ∷ digits) = refl

-- a line that doesn't end where it should is wrong
pub line_end_wrong : (n b : ℕ) (u : List ℕ) → b ≢ 13 → line_end n (b ∷ u) ≡ wrong bad_request
unfolding line_end
line_end_wrong n b [] other =
    let no_return : (b == 13) ≡ false = grind (arith, nat_tests) in
    ap (λ (c : Bool). cond c cut (wrong bad_request)) no_return
line_end_wrong n b (c ∷ u) other =
    let no_return : (b == 13) ≡ false = grind (arith, nat_tests) in
    ap (λ (x : Bool). cond (x && (c == 10)) (past n u) (wrong bad_request)) no_return

-- an end that isn't there yet is waited for
pub line_end_nil : (n : ℕ) → line_end n [] ≡ cut
unfolding line_end
line_end_nil n = refl

-- a part with more bytes after it
abbrev grown : List ℕ → Part → Part
grown t cut = cut
grown t (wrong code) = wrong code
grown t (past n rest) = past n (rest ++ t)

-- ---- lines

line_end_grows : (n : ℕ) (s t : List ℕ) → line_end n s ≢ cut → line_end n (s ++ t) ≡ grown t (line_end n s)
unfolding line_end
line_end_grows n [] t settled = absurd (settled refl)
line_end_grows n (b ∷ []) t settled = last (b == 13) refl
  where
    last : (r : Bool) → (b == 13) ≡ r → line_end n (b ∷ t) ≡ grown t (line_end n (b ∷ []))
    last true e = absurd (settled (ap (λ (c : Bool). cond c cut (wrong bad_request)) e))
    last false e =
        let other : b ≢ 13 = grind (arith, nat_tests) in
        line_end_wrong n b t other ∙ sym (ap (λ (c : Bool). grown t (cond c cut (wrong bad_request))) e)
line_end_grows n (b ∷ c ∷ s) t settled = two (b == 13 && c == 10)
  where
    two : (r : Bool)
        → cond r (past n (s ++ t)) (wrong bad_request) ≡ grown t (cond r (past n s) (wrong bad_request))
    two true = refl
    two false = refl

extension_grows : (s t : List ℕ)
    → behind_extension s ≢ [] → behind_extension (s ++ t) ≡ behind_extension s ++ t
unfolding behind_extension
extension_grows [] t some = absurd (some refl)
extension_grows (b ∷ s) t some = by (is_extension_byte b) (extension_grows s t) some
  where
    by : (r : Bool) → (behind_extension s ≢ [] → behind_extension (s ++ t) ≡ behind_extension s ++ t)
        → cond r (behind_extension s) (b ∷ s) ≢ [] → cond r (behind_extension (s ++ t)) (b ∷ s ++ t)
        ≡ cond r (behind_extension s) (b ∷ s) ++ t
    by true rest some = rest some
    by false rest some = refl

digits_grow : (digits s t : List ℕ) → behind_digits digits s ≢ cut
    → behind_digits digits (s ++ t) ≡ grown t (behind_digits digits s)
unfolding behind_digits
digits_grow [] [] t settled = absurd (settled refl)
digits_grow (d ∷ digits) [] t settled = absurd (settled refl)
digits_grow [] (b ∷ s) t settled = refl
digits_grow (d ∷ digits) (b ∷ s) t settled = by (opens_extension b) settled
  where
    n : ℕ
    n = number_of (d ∷ digits)

    by : (r : Bool) → cond r (line_end n (behind_extension s)) (line_end n (b ∷ s)) ≢ cut
        → cond r (line_end n (behind_extension (s ++ t))) (line_end n (b ∷ s ++ t))
        ≡ grown t (cond r (line_end n (behind_extension s)) (line_end n (b ∷ s)))
    by true settled =
        ap (λ (u : List ℕ). line_end n u)
        (extension_grows s t (λ none. settled (ap (λ (u : List ℕ). line_end n u) none ∙ line_end_nil n)))
        ∙ line_end_grows n (behind_extension s) t settled
    by false settled = line_end_grows n (b ∷ s) t settled

-- those that are counted at the front, with more after them
prefix_grows : (p : ℕ → Bool) (s t : List ℕ) → prefix_len p s ≤ prefix_len p (s ++ t)
prefix_grows p [] t = omega arith
prefix_grows p (x ∷ s) t = by (p x) (prefix_grows p s t)
  where
    by : (r : Bool) → prefix_len p s ≤ prefix_len p (s ++ t)
        → cond r (1 + prefix_len p s) 0 ≤ cond r (1 + prefix_len p (s ++ t)) 0
    by true rest = omega (arith, rest)
    by false rest = omega arith

prefix_stays : (p : ℕ → Bool) (s t : List ℕ) → prefix_len p s < length s
    → prefix_len p (s ++ t) ≡ prefix_len p s
prefix_stays p [] t some = absurd (omega (arith, some))
prefix_stays p (x ∷ s) t some = by (p x) (prefix_stays p s t) some
  where
    by : (r : Bool) → (prefix_len p s < length s → prefix_len p (s ++ t) ≡ prefix_len p s)
        → cond r (1 + prefix_len p s) 0 < length (x ∷ s)
        → cond r (1 + prefix_len p (s ++ t)) 0 ≡ cond r (1 + prefix_len p s) 0
    by true rest some = ap (λ n. 1 + n) (rest (omega (arith, some)))
    by false rest some = refl

line_grows : (s t : List ℕ) → line_of s ≢ cut → line_of (s ++ t) ≡ grown t (line_of s)
unfolding line_of
line_grows s t settled = by (nat_lt 8 n) refl (cases_lt n (length s))
  where
    n : ℕ
    n = prefix_len is_hex s

    by : (r : Bool) → nat_lt 8 n ≡ r → (n < length s) ⊎ (length s ≤ n)
        → line_of (s ++ t) ≡ grown t (line_of s)
    by true e c =
        let grows = prefix_grows is_hex s t in
        let above : nat_lt 8 (prefix_len is_hex (s ++ t)) ≡ true = grind (arith, nat_tests) in
        rw (above, e) refl
    by false e (inl less) =
        let same = prefix_stays is_hex s t less in
        let front : take n (s ++ t) ≡ take n s = take-append-le n s t (omega (arith, less)) in
        let back : drop n (s ++ t) ≡ drop n s ++ t = drop-append-le n s t (omega (arith, less)) in
        let some : behind_digits (take n s) (drop n s) ≢ cut = λ none.
        settled (ap (λ (c : Bool). cond c (wrong bad_request) (behind_digits (take n s) (drop n s))) e
        ∙ none) in
        ap (λ m. cond (nat_lt 8 m) (wrong bad_request) (behind_digits (take m (s ++ t)) (drop m (s ++ t))))
        same
        ∙ ap (λ (c : Bool). cond c (wrong bad_request) (behind_digits (take n (s ++ t)) (drop n (s ++ t)))) e
        ∙ ap (λ (u : List ℕ). behind_digits u (drop n (s ++ t))) front
        ∙ ap (λ (u : List ℕ). behind_digits (take n s) u) back
        ∙ digits_grow (take n s) (drop n s) t some
        ∙ sym
        (ap (λ (c : Bool). grown t (cond c (wrong bad_request) (behind_digits (take n s) (drop n s)))) e)
    by false e (inr all) =
        let read = ap (λ (c : Bool). cond c (wrong bad_request) (behind_digits (take n s) (drop n s))) e in
        let none =
        ap (λ (u : List ℕ). behind_digits (take n s) u) (drop_all n s all) ∙ digits_nil (take n s) in
        absurd (settled (read ∙ none))

section_grows : (fresh : Bool) (s t : List ℕ) → section_of fresh s ≢ cut
    → section_of fresh (s ++ t) ≡ grown t (section_of fresh s)
unfolding section_of
section_grows fresh [] t settled = absurd (settled refl)
section_grows fresh (b ∷ []) t settled = by (b == 13) (b == 10 || b == 0) t refl refl settled
  where
    by : (r z : Bool) (t : List ℕ) → (b == 13) ≡ r → (b == 10 || b == 0) ≡ z
        → cond r cut (cond z (wrong bad_request) cut) ≢ cut
        → section_of fresh (b ∷ t) ≡ grown t (section_of fresh (b ∷ []))
    by true z t e f settled = absurd (settled refl)
    by false false t e f settled = absurd (settled refl)
    by false true [] e f settled = rw (e, f) refl
    by false true (c ∷ t) e f settled = rw (e, f) refl
section_grows fresh (b ∷ c ∷ s) t settled =
    by (b == 13) (c == 10) fresh (b == 10 || b == 0) (section_grows true s t)
    (section_grows false (c ∷ s) t) settled
  where
    by : (r f fresh z : Bool)
        → (section_of true s ≢ cut → section_of true (s ++ t) ≡ grown t (section_of true s))
        → (section_of false (c ∷ s) ≢ cut
        → section_of false (c ∷ s ++ t) ≡ grown t (section_of false (c ∷ s)))
        → cond r (cond f (cond fresh (past 0 s) (section_of true s)) (wrong bad_request))
        (cond z (wrong bad_request) (section_of false (c ∷ s))) ≢ cut
        → cond r (cond f (cond fresh (past 0 (s ++ t)) (section_of true (s ++ t))) (wrong bad_request))
        (cond z (wrong bad_request) (section_of false (c ∷ s ++ t)))
        ≡ grown t
        (cond r (cond f (cond fresh (past 0 s) (section_of true s)) (wrong bad_request))
        (cond z (wrong bad_request) (section_of false (c ∷ s))))
    by true true true z line on settled = refl
    by true true false z line on settled = line settled
    by true false fresh z line on settled = refl
    by false f fresh true line on settled = refl
    by false f fresh false line on settled = on settled

-- ---- parts within their first bytes

-- what is left after a part of the first bytes
left_behind : (n m : ℕ) (s t : List ℕ) → m ≤ length s → past n (drop m (s ++ t)) ≡ grown t (past n (drop m s))
left_behind n m s t fits = ap (λ (u : List ℕ). past n u) (drop-append-le m s t fits)

capped_grows : (limit code : ℕ) (R : List ℕ → Part)
    → ((s t : List ℕ) → R s ≢ cut → R (s ++ t) ≡ grown t (R s)) → (s t : List ℕ)
    → capped limit code s (take limit s) (R (take limit s)) ≢ cut
    → capped limit code (s ++ t) (take limit (s ++ t)) (R (take limit (s ++ t)))
    ≡ grown t (capped limit code s (take limit s) (R (take limit s)))
capped_grows limit code R grows s t = go (cases_lt (length s) limit)
  where
    long : limit ≤ length s → (w : List ℕ) → length w ≤ length s → (p : Part)
        → capped limit code (s ++ t) w p ≡ grown t (capped limit code s w p)
    long full w fits cut =
        let size = length-append s t in
        let one : nat_le limit (length s) ≡ true = grind (arith, nat_tests) in
        let two : nat_le limit (length (s ++ t)) ≡ true = grind (arith, nat_tests) in
        rw (one, two) refl
    long full w fits (wrong c) = refl
    long full w fits (past n rest) = left_behind n (length w - length rest) s t (omega (arith, fits))

    short : length s < limit → (u : List ℕ) (p : Part) → R s ≡ p → capped limit code s s p ≢ cut
        → capped limit code (s ++ t) (s ++ u) (R (s ++ u)) ≡ grown t (capped limit code s s p)
    short less u cut e settled =
        let few : nat_le limit (length s) ≡ false = grind (arith, nat_tests) in
        absurd (settled (ap (λ (c : Bool). cond c (wrong code) cut) few))
    short less u (wrong c) e settled =
        ap (λ (p : Part). capped limit code (s ++ t) (s ++ u) p) (grows s u (λ none. let same =
        sym e ∙ none in absurd cc) ∙ ap (grown u) e)
    short less u (past n rest) e settled =
        let one = length-append s u in
        let two = length-append rest u in
        let count : length (s ++ u) - length (rest ++ u) ≡ length s - length rest = omega (arith, one, two) in
        ap (λ (p : Part). capped limit code (s ++ t) (s ++ u) p) (grows s u (λ none. let same =
        sym e ∙ none in absurd cc) ∙ ap (grown u) e)
        ∙ ap (λ m. past n (drop m (s ++ t))) count ∙ left_behind n (length s - length rest) s t (omega arith)

    go : (length s < limit) ⊎ (limit ≤ length s) → capped limit code s (take limit s) (R (take limit s)) ≢ cut
        → capped limit code (s ++ t) (take limit (s ++ t)) (R (take limit (s ++ t)))
        ≡ grown t (capped limit code s (take limit s) (R (take limit s)))
    go (inr full) settled =
        ap (λ (w : List ℕ). capped limit code (s ++ t) w (R w)) (take-append-le limit s t full)
        ∙ long full (take limit s) (omega (arith, length-take limit s)) (R (take limit s))
    go (inl less) settled =
        let same : take limit s ≡ s = take_all limit s (omega (arith, less)) in
        let window : take limit (s ++ t) ≡ s ++ take (limit - length s) t =
        let e : limit ≡ length s + (limit - length s) = omega (arith, less) in
        ap (λ (n : ℕ). take n (s ++ t)) e ∙ take-append-add s t (limit - length s) in
        ap (λ (w : List ℕ). capped limit code (s ++ t) w (R w)) window
        ∙ short less (take (limit - length s) t) (R s) refl
        (λ none. settled (ap (λ (w : List ℕ). capped limit code s w (R w)) same ∙ none))
        ∙ sym (ap (λ (w : List ℕ). grown t (capped limit code s w (R w))) same)

chunk_line_grows : (s t : List ℕ) → chunk_line s ≢ cut → chunk_line (s ++ t) ≡ grown t (chunk_line s)
chunk_line_grows s t settled = capped_grows 256 bad_request line_of line_grows s t settled

trailers_grow : (s t : List ℕ) → trailers s ≢ cut → trailers (s ++ t) ≡ grown t (trailers s)
trailers_grow s t settled =
    capped_grows 4096 header_fields_too_large (section_of true) (section_grows true) s t settled

-- ---- chunks

content_grows : (next : List ℕ → Part) → ((s t : List ℕ) → next s ≢ cut → next (s ++ t) ≡ grown t (next s))
    → (s t : List ℕ) (p : Part) → line_end 0 s ≡ p
    → behind_content next p ≢ cut
    → behind_content next (line_end 0 (s ++ t)) ≡ grown t (behind_content next p)
content_grows next grows s t cut e settled = absurd (settled refl)
content_grows next grows s t (wrong code) e settled =
    ap (λ (p : Part). behind_content next p) (line_end_grows 0 s t (λ none. let same =
    sym e ∙ none in absurd cc) ∙ ap (grown t) e)
content_grows next grows s t (past n rest) e settled =
    ap (λ (p : Part). behind_content next p) (line_end_grows 0 s t (λ none. let same =
    sym e ∙ none in absurd cc) ∙ ap (grown t) e) ∙ grows rest t settled

-- content that doesn't end within the bytes is waited for
content_short : (next : List ℕ → Part) (size : ℕ) (s : List ℕ) → length s ≤ size
    → behind_content next (line_end 0 (drop size s)) ≡ cut
content_short next size s short =
    ap (λ (u : List ℕ). behind_content next (line_end 0 u)) (drop_all size s short)
    ∙ ap (λ (p : Part). behind_content next p) (line_end_nil 0)

line_behind_grows : (next : ℕ → List ℕ → Part)
    → ((sum : ℕ) (s t : List ℕ) → next sum s ≢ cut → next sum (s ++ t) ≡ grown t (next sum s))
    → (sum size : ℕ) (s t : List ℕ)
    → behind_line next sum (past size s) ≢ cut
    → behind_line next sum (past size (s ++ t)) ≡ grown t (behind_line next sum (past size s))
line_behind_grows next grows sum size s t = by (nat_lt body_limit (sum + size)) (size == 0)
  where
    content : List ℕ → Part
    content u = behind_content (next (sum + size)) (line_end 0 (drop size u))

    in_content : (size < length s) ⊎ (length s ≤ size)
        → behind_content (next (sum + size)) (line_end 0 (drop size s)) ≢ cut
        → behind_content (next (sum + size)) (line_end 0 (drop size (s ++ t)))
        ≡ grown t (behind_content (next (sum + size)) (line_end 0 (drop size s)))
    in_content (inl less) settled =
        ap (λ (u : List ℕ). behind_content (next (sum + size)) (line_end 0 u))
        (drop-append-le size s t (omega (arith, less)))
        ∙ content_grows (next (sum + size)) (grows (sum + size)) (drop size s) t
        (line_end 0 (drop size s)) refl settled
    in_content (inr all) settled = absurd (settled (content_short (next (sum + size)) size s all))

    by : (large last : Bool)
        → cond large (wrong content_too_large)
        (cond last (trailers s) (behind_content (next (sum + size)) (line_end 0 (drop size s)))) ≢ cut
        → cond large (wrong content_too_large)
        (cond last (trailers (s ++ t)) (behind_content (next (sum + size)) (line_end 0 (drop size (s ++ t)))))
        ≡ grown t
        (cond large (wrong content_too_large)
        (cond last (trailers s) (behind_content (next (sum + size)) (line_end 0 (drop size s)))))
    by true last settled = refl
    by false true settled = trailers_grow s t settled
    by false false settled = in_content (cases_lt size (length s)) settled

line_grows_behind : (next : ℕ → List ℕ → Part)
    → ((sum : ℕ) (s t : List ℕ) → next sum s ≢ cut → next sum (s ++ t) ≡ grown t (next sum s))
    → (sum : ℕ) (s t : List ℕ) (p : Part)
    → chunk_line s ≡ p → behind_line next sum p ≢ cut
    → behind_line next sum (chunk_line (s ++ t)) ≡ grown t (behind_line next sum p)
line_grows_behind next grows sum s t cut e settled = absurd (settled refl)
line_grows_behind next grows sum s t (wrong code) e settled =
    ap (λ (p : Part). behind_line next sum p) (chunk_line_grows s t (λ none. let same =
    sym e ∙ none in absurd cc) ∙ ap (grown t) e)
line_grows_behind next grows sum s t (past size rest) e settled =
    ap (λ (p : Part). behind_line next sum p) (chunk_line_grows s t (λ none. let same =
    sym e ∙ none in absurd cc) ∙ ap (grown t) e)
    ∙ line_behind_grows next grows sum size rest t settled

chunks_grow : (left sum : ℕ) (s t : List ℕ) → chunks left sum s ≢ cut
    → chunks left sum (s ++ t) ≡ grown t (chunks left sum s)
unfolding chunks
chunks_grow zero sum s t settled = refl
chunks_grow (suc left) sum s t settled =
    line_grows_behind (chunks left) (chunks_grow left) sum s t (chunk_line s) refl settled

-- ---- the laws

chunked_stays : (s t : List ℕ) (p : Part) (v : BodyVerdict) → chunked s ≡ p → verdict_of (length s) p ≡ v
    → v ≢ more → verdict_of (length (s ++ t)) (chunked (s ++ t)) ≡ v
chunked_stays s t cut v e is settled = absurd (settled (sym is))
chunked_stays s t (wrong code) v e is settled =
    ap (λ (p : Part). verdict_of (length (s ++ t)) p) (chunks_grow (body_limit + 1) 0 s t (λ none. let same =
    sym e ∙ none in absurd cc) ∙ ap (grown t) e) ∙ is
chunked_stays s t (past n rest) v e is settled =
    let one = length-append s t in
    let two = length-append rest t in
    let count : length (s ++ t) - length (rest ++ t) ≡ length s - length rest = omega (arith, one, two) in
    ap (λ (p : Part). verdict_of (length (s ++ t)) p) (chunks_grow (body_limit + 1) 0 s t (λ none. let same =
    sym e ∙ none in absurd cc) ∙ ap (grown t) e)
    ∙ ap whole count ∙ is

-- the law: a body that is settled stays
pub body_stays : (framing : Framing) (s t : List ℕ) (v : BodyVerdict) → body_of framing s ≡ v
    → v ≢ more → body_of framing (s ++ t) ≡ v
body_stays Framings.None s t v is settled = is
body_stays (Framings.Length n) s t v is settled = by (nat_le n (length s)) refl is
  where
    by : (r : Bool) → nat_le n (length s) ≡ r → cond r (whole n) more ≡ v
        → cond (nat_le n (length (s ++ t))) (whole n) more ≡ v
    by true e is =
        let size = length-append s t in
        let there : nat_le n (length (s ++ t)) ≡ true = grind (arith, nat_tests) in
        ap (λ (c : Bool). cond c (whole n) more) there ∙ is
    by false e is = absurd (settled (sym is))
body_stays Framings.Chunked s t v is settled = chunked_stays s t (chunked s) v refl is settled

whole_is : (m n : ℕ) → whole m ≡ whole n → m ≡ n
whole_is m n e = cc

-- the law: a body that is whole is in its bytes
pub body_within : (framing : Framing) (s : List ℕ) (n : ℕ) → body_of framing s ≡ whole n → n ≤ length s
body_within Framings.None s n is = let e = whole_is 0 n is in omega (arith, e)
body_within (Framings.Length m) s n is = by (nat_le m (length s)) refl is
  where
    by : (r : Bool) → nat_le m (length s) ≡ r → cond r (whole m) more ≡ whole n → n ≤ length s
    by true there is = let e = whole_is m n is in grind (arith, nat_tests)
    by false there is = absurd cc
body_within Framings.Chunked s n is = by (chunked s) is
  where
    by : (p : Part) → verdict_of (length s) p ≡ whole n → n ≤ length s
    by cut is = absurd cc
    by (wrong code) is = absurd cc
    by (past m rest) is = let e = whole_is (length s - length rest) n is in omega (arith, e)
