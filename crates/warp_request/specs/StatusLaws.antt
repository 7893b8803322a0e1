-- Inner: laws that crates above cite, or that those stand on: the statuses of refusals.
use Rattle.std.proofs.Common.{◌≡◌, ℕ, zero, suc, ◌+◌, ◌⊎◌, Bool, true, false, List, [], ◌∷◌, length, take}
use Rattle.std.proofs.Common.{drop, Option, Some, refl, subst, inl, inr, arith, ◌≤◌}
use Rattle.std.specs.Prelude.{◌&&◌, ◌||◌, ◌==◌, nat_le, nat_lt, not, if◌then◌else◌}
use Rattle.std.specs.List.{list_any, prefix_len}
use Rattle.std.proofs.lemmas.Bool.Decides.{Decides-eqb}
use Rattle.std.proofs.lemmas.Bool.{and_parts}
use Rattle.httparse.specs.Ascii.{line_feed, carriage_return}
use Rattle.warp_request.specs.LimitsAndWords.{body_limit, chunk_digits, chunk_line_limit, trailer_limit}
use Rattle.warp_response.specs.Statuses.{bad_request, content_too_large, header_fields_too_large}
use Rattle.warp_response.specs.Statuses.{uri_too_long, HasPhrase}
use Rattle.warp_request.specs.declared.verdict.Framing.{Framing}
use Rattle.warp_request.specs.declared.verdict.Framing.TheVariants as framings
use Rattle.warp_request.specs.Body as body
use Rattle.warp_request.specs.Body.{Part, cut, wrong, past, is_hex, opens_extension, behind_extension}
use Rattle.warp_request.specs.Body.{number_of, line_end, behind_digits, line_of, section_of, capped}
use Rattle.warp_request.specs.Body.{chunk_line, trailers, behind_content, behind_line, chunks, chunked}
use Rattle.warp_request.specs.Body.{verdict_of, body_of}
use Rattle.warp_request.specs.Checks.{Parts, parts_of, checks, checked, first_fault, verdict_by}
use Rattle.warp_request.specs.Lines.{has_line, breaks_line_rule}
use Rattle.warp_request.specs.Next.{window_of, waits, by_beginning, next_of}
use Rattle.warp_request.specs.Beginning.{Beginning, whole, unfinished, invalid, beginning}
use Rattle.warp_request.specs.Verdict.{Verdict, more, refused, asked}
use Rattle.warp_request.specs.Laws.{refusal_statuses, IsRefusalStatus}

sent_test : ℕ → Bool
sent_test code = list_any (λ status. status == code) refusal_statuses

sent_of : (code : ℕ) → sent_test code ≡ true → IsRefusalStatus code
unfolding sent_test IsRefusalStatus
sent_of code is = is

-- a refusal has such a status
Sends : Verdict → Type 0
Sends more = Unit {0}
Sends (refused code) = IsRefusalStatus code
Sends (asked a) = Unit {0}

sends_if : (b : Bool) (v w : Verdict) → Sends v → Sends w → Sends (if b then v else w)
sends_if true v w x y = x
sends_if false v w x y = y

all_sent : List (Bool × ℕ) → Bool
all_sent [] = true
all_sent (check ∷ checks) = sent_test check.1 && all_sent checks

fault_sent : (b : Bool) (code : ℕ) (rest : Option ℕ) (p : Parts) → IsRefusalStatus code
    → Sends (verdict_by rest p) → Sends (verdict_by (if b then Some code else rest) p)
unfolding Sends
fault_sent true code rest p sent x = sent
fault_sent false code rest p sent x = x

faults_sent : (checks : List (Bool × ℕ)) (p : Parts) → all_sent checks ≡ true
    → Sends (verdict_by (first_fault checks) p)
unfolding Sends all_sent
faults_sent [] p all = tt
faults_sent (check ∷ checks) p all =
    let parts = and_parts (sent_test check.1) (all_sent checks) all in
    fault_sent check.0 check.1 (first_fault checks) p (sent_of check.1 parts.0) (faults_sent checks p parts.1)

checked_sent : (p : Parts) → Sends (checked p)
unfolding checked all_sent sent_test
checked_sent p = faults_sent (checks p) p refl

waits_sent : (code : ℕ) (s : List ℕ) → sent_test code ≡ true → Sends (waits code s)
unfolding Sends waits
waits_sent code s sent = sends_if _ more (refused code) tt (sent_of code sent)

beginning_sent : (s w : List ℕ) (r : Beginning w) → Sends (by_beginning s w r)
unfolding Sends by_beginning sent_test
beginning_sent s w (whole h rest x) = checked_sent (parts_of h)
beginning_sent s w (unfinished none may) = waits_sent header_fields_too_large s refl
beginning_sent s w (invalid never) = sent_of bad_request refl

next_sent : (s : List ℕ) → Sends (next_of s)
unfolding Sends next_of sent_test
next_sent s =
    let w = window_of s in
    sends_if (not (has_line w)) (waits uri_too_long s)
    (if breaks_line_rule w then refused bad_request else by_beginning s w (beginning w))
    (waits_sent uri_too_long s refl)
    (sends_if (breaks_line_rule w) (refused bad_request) (by_beginning s w (beginning w))
    (sent_of bad_request refl) (beginning_sent s w (beginning w)))

-- what is refused is refused with a status that can be sent
pub status_of : (s : List ℕ) (code : ℕ) → next_of s ≡ refused code → IsRefusalStatus code
unfolding Sends
status_of s code is = subst (λ (v : Verdict). Sends v) is (next_sent s)

-- ---- bodies

-- a part that is refused is so with such a status
PartSends : Part → Type 0
PartSends cut = Unit {0}
PartSends (wrong code) = IsRefusalStatus code
PartSends (past n rest) = Unit {0}

bad : PartSends (wrong bad_request)
unfolding PartSends sent_test
bad = sent_of bad_request refl

part_if : (b : Bool) (p q : Part) → PartSends p → PartSends q → PartSends (if b then p else q)
part_if true p q x y = x
part_if false p q x y = y

end_sends : (n : ℕ) (s : List ℕ) → PartSends (line_end n s)
unfolding PartSends line_end
end_sends n [] = tt
end_sends n (b ∷ []) = part_if (b == carriage_return) cut (wrong bad_request) tt bad
end_sends n (b ∷ c ∷ s) =
    part_if (b == carriage_return && c == line_feed) (past n s) (wrong bad_request) tt bad

digits_send : (digits s : List ℕ) → PartSends (behind_digits digits s)
unfolding PartSends behind_digits
digits_send digits [] = tt
digits_send [] (b ∷ s) = bad
digits_send (d ∷ digits) (b ∷ s) =
    part_if (opens_extension b) (line_end (number_of (d ∷ digits)) (behind_extension s))
    (line_end (number_of (d ∷ digits)) (b ∷ s))
    (end_sends (number_of (d ∷ digits)) (behind_extension s)) (end_sends (number_of (d ∷ digits)) (b ∷ s))

line_sends : (s : List ℕ) → PartSends (line_of s)
unfolding line_of
line_sends s =
    let n = prefix_len is_hex s in
    part_if (nat_lt chunk_digits n) (wrong bad_request) (behind_digits (take n s) (drop n s)) bad
    (digits_send (take n s) (drop n s))

section_sends : (fresh : Bool) (s : List ℕ) → PartSends (section_of fresh s)
unfolding PartSends section_of
section_sends fresh [] = tt
section_sends fresh (b ∷ []) =
    part_if (b == carriage_return) cut _ tt
    (part_if (b == line_feed || b == 0) (wrong bad_request) cut bad tt)
section_sends fresh (b ∷ c ∷ s) =
    part_if (b == carriage_return) _ _
    (part_if (c == line_feed) _ (wrong bad_request)
    (part_if fresh (past 0 s) (section_of true s) tt (section_sends true s)) bad)
    (part_if (b == line_feed || b == 0) (wrong bad_request) (section_of false (c ∷ s)) bad
    (section_sends false (c ∷ s)))

capped_sends : (limit code : ℕ) (s w : List ℕ) (p : Part) → IsRefusalStatus code → PartSends p
    → PartSends (capped limit code s w p)
unfolding PartSends
capped_sends limit code s w cut sent x = part_if (nat_le limit (length s)) (wrong code) cut sent tt
capped_sends limit code s w (wrong fault) sent x = x
capped_sends limit code s w (past n rest) sent x = tt

chunk_sends : (s : List ℕ) → PartSends (chunk_line s)
unfolding sent_test
chunk_sends s =
    let w = take chunk_line_limit s in
    capped_sends chunk_line_limit bad_request s w (line_of w) (sent_of bad_request refl) (line_sends w)

trailers_send : (s : List ℕ) → PartSends (trailers s)
unfolding sent_test
trailers_send s =
    let w = take trailer_limit s in
    capped_sends trailer_limit header_fields_too_large s w (section_of true w)
    (sent_of header_fields_too_large refl) (section_sends true w)

content_sends : (next : List ℕ → Part) (p : Part) → ((s : List ℕ) → PartSends (next s))
    → PartSends p → PartSends (behind_content next p)
unfolding PartSends
content_sends next cut again x = tt
content_sends next (wrong code) again x = x
content_sends next (past n s) again x = again s

behind_sends : (next : ℕ → List ℕ → Part) (sum : ℕ) (p : Part) → ((n : ℕ) (s : List ℕ) → PartSends (next n s))
    → PartSends p → PartSends (behind_line next sum p)
unfolding PartSends sent_test
behind_sends next sum cut again x = tt
behind_sends next sum (wrong code) again x = x
behind_sends next sum (past size s) again x =
    part_if (nat_lt body_limit (sum + size)) (wrong content_too_large) _ (sent_of content_too_large refl)
    (part_if (size == 0) (trailers s) (behind_content (next (sum + size)) (line_end 0 (drop size s)))
    (trailers_send s)
    (content_sends (next (sum + size)) (line_end 0 (drop size s)) (again (sum + size))
    (end_sends 0 (drop size s))))

chunks_send : (k sum : ℕ) (s : List ℕ) → PartSends (chunks k sum s)
unfolding PartSends chunks sent_test
chunks_send zero sum s = sent_of content_too_large refl
chunks_send (suc k) sum s = behind_sends (chunks k) sum (chunk_line s) (chunks_send k) (chunk_sends s)

part_status : (total code : ℕ) (p : Part) → PartSends p → verdict_of total p ≡ body.refused code
    → IsRefusalStatus code
unfolding PartSends
part_status total code cut x is = cc
part_status total code (wrong other) x is = let same : other ≡ code = cc in subst IsRefusalStatus same x
part_status total code (past n rest) x is = cc

length_status : (n code : ℕ) (b : Bool) → (if b then body.whole n else body.more) ≡ body.refused code
    → IsRefusalStatus code
length_status n code true is = cc
length_status n code false is = cc

-- a body that is refused is so with a status that can be sent
pub body_status : (framing : Framing) (s : List ℕ) (code : ℕ) → body_of framing s ≡ body.refused code
    → IsRefusalStatus code
body_status framings.None s code is = cc
body_status (framings.Length n) s code is = length_status n code (nat_le n (length s)) is
body_status framings.Chunked s code is =
    part_status (length s) code (chunked s) (chunks_send (body_limit + 1) 0 s) is

-- ---- what holds of each of the statuses

either : (a b : Bool) → (a || b) ≡ true → (a ≡ true) ⊎ (b ≡ true)
either true b is = inl refl
either false b is = inr is

-- each of them has the property
abbrev Each : (ℕ → Type 0) → List ℕ → Type 0
Each P [] = Unit {0}
Each P (status ∷ statuses) = P status × Each P statuses

of_one : (P : ℕ → Type 0) (status code : ℕ) (rest : Bool) → P status → (rest ≡ true → P code)
    → ((status == code) || rest) ≡ true → P code
of_one P status code rest first later is = go (either (status == code) rest is)
  where
    go : ((status == code) ≡ true) ⊎ (rest ≡ true) → P code
    go (inl same) = subst P ((Decides-eqb status code).0 same) first
    go (inr follows) = later follows

of_any : (P : ℕ → Type 0) (statuses : List ℕ) (code : ℕ) → Each P statuses
    → list_any (λ status. status == code) statuses ≡ true → P code
of_any P [] code all is = absurd (cc)
of_any P (status ∷ statuses) code all is =
    of_one P status code (list_any (λ s. s == code) statuses) all.0
    (λ follows. of_any P statuses code all.1 follows) is

-- each of them has a reason phrase
pub refusal_phrase : (code : ℕ) → IsRefusalStatus code → HasPhrase code
unfolding IsRefusalStatus HasPhrase
refusal_phrase code is =
    of_any HasPhrase refusal_statuses code (refl, (refl, (refl, (refl, (refl, (refl, tt)))))) is

-- each of them is one of an error
pub refusal_least : (code : ℕ) → IsRefusalStatus code → 400 ≤ code
unfolding IsRefusalStatus
refusal_least code is =
    of_any (λ (n : ℕ). 400 ≤ n) refusal_statuses code
    (omega arith, (omega arith, (omega arith, (omega arith, (omega arith, (omega arith, tt)))))) is
