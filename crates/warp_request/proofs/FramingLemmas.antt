-- What the kinds of Transfer-Encoding and Content-Length lines decide is what the checks say.
use Rattle.std.proofs.Common.{◌≡◌, ℕ, ◌-◌, ◌≤◌, Bool, true, false, cond, not, List, [], ◌∷◌, ◌++◌, length}
use Rattle.std.proofs.Common.{get_or, refl, sym, ap, ◌∙◌, arith, nat_lt, Option, Some, None}
use Rattle.std.specs.Prelude.{◌&&◌, ◌==◌, if◌then◌else◌, Result, Ok, Err}
use Rattle.std.specs.List.{count_by}
use Rattle.std.proofs.Math.Bool.{and-false}
use Rattle.warp_request.specs.declared.coding.CodingLines.{CodingLines}
use Rattle.warp_request.specs.declared.coding.CodingLines.TheVariants as codings
use Rattle.warp_request.specs.LimitsAndWords.{body_limit, host_name, transfer_encoding_name}
use Rattle.warp_request.specs.LimitsAndWords.{content_length_name, expect_name}
use Rattle.warp_response.specs.Statuses.{bad_request, content_too_large, expectation_failed, not_implemented}
use Rattle.warp_request.specs.declared.verdict.Framing.{Framing}
use Rattle.warp_request.specs.declared.verdict.Framing.TheVariants as framings
use Rattle.warp_request.specs.Checks.{field_checks, first_fault, framing_by, framing_checks}
use Rattle.warp_request.specs.Content.{codings_of, ends_in_chunked, framing_of, has_other_coding, is_chunked}
use Rattle.warp_request.specs.Content.{is_expect_fault, is_length_fault, length_in}
use Rattle.warp_request.specs.Fields.{is_host_fault, members_of, values_of}
use Rattle.warp_request.specs.NamedLines.{Lengths, absent, number, wrong, coding_lines, decided, fields_say}
use Rattle.warp_request.specs.NamedLines.{framing_by_codings, framing_by_length, framing_said, framing_within}
use Rattle.warp_request.specs.NamedLines.{is_absent, length_lines}
use Rattle.warp_request.proofs.CodingLemmas.{SaysCoding, coding_lines_say}
use Rattle.warp_request.proofs.LengthLemmas.{SaysLength, length_lines_say, some_member}

-- ---- by a length

within : (large : Bool) (n : ℕ) → cond large (Err content_too_large) (Ok (framings.Length n))
    ≡ decided (cond large (Some content_too_large) None) (framings.Length n)
within true n = refl
within false n = refl

by_length : (lines : Lengths) (members : List (List ℕ)) → 1 ≤ length members → SaysLength lines members
    → framing_by_length lines
    ≡ decided (cond (is_length_fault members) (Some bad_request)
    (cond (nat_lt body_limit (length_in members)) (Some content_too_large) None))
    (framings.Length (length_in members))
by_length absent members some says = absurd (omega (arith, some, ap length says))
by_length (number digits) members some says =
    ap framing_within says.2 ∙ within (nat_lt body_limit (length_in members)) (length_in members)
    ∙ sym (ap (λ (b : Bool). decided (cond b (Some bad_request) (cond (nat_lt body_limit (length_in members))
    (Some content_too_large) None)) (framings.Length (length_in members))) says.1)
by_length wrong members some says =
    sym (ap (λ (b : Bool). decided (cond b (Some bad_request) (cond (nat_lt body_limit (length_in members))
    (Some content_too_large) None)) (framings.Length (length_in members))) says.1)

nothing : (minor : ℕ) → framing_by_length (length_lines [])
    ≡ decided (first_fault (framing_checks minor [] [])) (framing_of [] [])
unfolding length_lines is_length_fault length_in has_other_coding codings_of members_of framing_of
nothing minor = refl

without_codings : (minor : ℕ) (long : List (List ℕ)) → framing_by_length (length_lines long)
    ≡ decided (first_fault (framing_checks minor [] long)) (framing_of [] long)
unfolding framing_of has_other_coding codings_of members_of
without_codings minor [] = nothing minor
without_codings minor (value ∷ values) =
    by_length (length_lines (value ∷ values)) (members_of (value ∷ values)) (some_member value values)
    (length_lines_say (value ∷ values))

-- ---- by codings

not_absent : (lines : Lengths) (members : List (List ℕ)) → 1 ≤ length members
    → SaysLength lines members → is_absent lines ≡ false
not_absent absent members some says = absurd (omega (arith, some, ap length says))
not_absent (number digits) members some says = refl
not_absent wrong members some says = refl

-- what is decided by whether the list ends in `chunked`, and whether others are in it
by_codings : (lines : CodingLines) (list : List (List ℕ)) → SaysCoding lines list
    → framing_by_codings lines ≡ decided (cond (not (ends_in_chunked list)) (Some bad_request)
    (cond (has_other_coding list) (Some not_implemented) None)) framings.Chunked
unfolding ends_in_chunked
by_codings codings.Absent list says = absurd says
by_codings codings.Empty list says =
    ap (λ (l : List (List ℕ)). decided (cond (not (ends_in_chunked l)) (Some bad_request)
    (cond (has_other_coding l) (Some not_implemented) None)) framings.Chunked)
    (sym says)
by_codings codings.Others list says =
    let none : ends_in_chunked list
    ≡ false = ap (λ n. is_chunked (get_or list (length list - 1) []) && n == 1) says.0
    ∙ and-false (is_chunked (get_or list (length list - 1) [])) in
    rw none refl
by_codings codings.Chunked list says =
    let one : ends_in_chunked list ≡ true =
    ap (λ (b : Bool). b && count_by is_chunked list == 1) says.0 ∙ ap (λ n. n == 1) says.1 in
    rw (one, says.2) refl
by_codings codings.OthersChunked list says =
    let one : ends_in_chunked list ≡ true =
    ap (λ (b : Bool). b && count_by is_chunked list == 1) says.0 ∙ ap (λ n. n == 1) says.1 in
    rw (one, says.2) refl
by_codings codings.Wrong list says = rw says.1 refl

-- under HTTP/1.0 no coding is taken
by_version : (old : Bool) (r : Result Framing ℕ) (fault : Option ℕ) (framing : Framing)
    → r ≡ decided fault framing
    → cond old (Err bad_request) r ≡ decided (cond old (Some bad_request) fault) framing
by_version true r fault framing e = refl
by_version false r fault framing e = e

-- the same for each kind of lines that are there
said_of : (minor : ℕ) (lines : CodingLines) (lengths : Lengths) (list : List (List ℕ)) → SaysCoding lines list
    → framing_said minor lines lengths ≡ cond (minor == 0) (Err bad_request)
    (cond (is_absent lengths) (framing_by_codings lines) (Err bad_request))
said_of minor codings.Absent lengths list says = absurd says
said_of minor codings.Empty lengths list says = refl
said_of minor codings.Others lengths list says = refl
said_of minor codings.Chunked lengths list says = refl
said_of minor codings.OthersChunked lengths list says = refl
said_of minor codings.Wrong lengths list says = refl

with_codings : (minor : ℕ) (value : List ℕ) (values long : List (List ℕ)) (lines : CodingLines)
    → SaysCoding lines (codings_of (value ∷ values))
    → framing_said minor lines (length_lines long)
    ≡ decided (first_fault (framing_checks minor (value ∷ values) long)) (framing_of (value ∷ values) long)
unfolding framing_of length_lines is_length_fault length_in members_of
with_codings minor value values [] lines says =
    said_of minor lines absent (codings_of (value ∷ values)) says
    ∙ by_version (minor == 0) (framing_by_codings lines) _ framings.Chunked
    (by_codings lines (codings_of (value ∷ values)) says)
with_codings minor value values (v ∷ vs) lines says =
    said_of minor lines (length_lines (v ∷ vs)) (codings_of (value ∷ values)) says
    ∙ ap
    (λ (b : Bool). cond (minor == 0) (Err bad_request) (cond b (framing_by_codings lines) (Err bad_request)))
    (not_absent (length_lines (v ∷ vs)) (members_of (v ∷ vs)) (some_member v vs) (length_lines_say (v ∷ vs)))
    ∙ by_version (minor == 0) (Err bad_request) (Some bad_request) framings.Chunked refl

-- the law: the kinds of the lines decide as the checks do
pub framing_said_is : (minor : ℕ) (coded long : List (List ℕ))
    → framing_said minor (coding_lines coded) (length_lines long)
    ≡ decided (first_fault (framing_checks minor coded long)) (framing_of coded long)
unfolding coding_lines
framing_said_is minor [] long = without_codings minor long
framing_said_is minor (value ∷ values) long =
    with_codings minor value values long (coding_lines (value ∷ values)) (coding_lines_say value values)

-- ---- all fields

-- what is decided where one more fault is looked for
abbrev pub unless : Bool → ℕ → Result Framing ℕ → Result Framing ℕ
unless fault code (Err other) = Err other
unless fault code (Ok framing) = if fault then Err code else Ok framing

one_more : (checks : List (Bool × ℕ)) (fault : Bool) (code : ℕ) (framing : Framing)
    → decided (first_fault (checks ++ (fault, code) ∷ [])) framing
    ≡ unless fault code (decided (first_fault checks) framing)
one_more [] fault code framing = by fault
  where
    by : (b : Bool) → decided (cond b (Some code) None) framing ≡ cond b (Err code) (Ok framing)
    by true = refl
    by false = refl
one_more (check ∷ checks) fault code framing = by check.0 (one_more checks fault code framing)
  where
    by : (b : Bool) → decided (first_fault (checks ++ (fault, code) ∷ [])) framing
        ≡ unless fault code (decided (first_fault checks) framing)
        → decided (cond b (Some check.1) (first_fault (checks ++ (fault, code) ∷ []))) framing
        ≡ unless fault code (decided (cond b (Some check.1) (first_fault checks)) framing)
    by true rest = refl
    by false rest = rest

checked_by : (host fault : Bool) (code : ℕ) (checks : List (Bool × ℕ)) (framing : Framing)
    → decided (cond host (Some bad_request) (first_fault (checks ++ (fault, code) ∷ []))) framing
    ≡ (if host then Err bad_request else unless fault code (decided (first_fault checks) framing))
checked_by true fault code checks framing = refl
checked_by false fault code checks framing = one_more checks fault code framing

-- the law: Host, then what delimits the content, then Expect
pub fields_decide : (minor : ℕ) (fields : List (List ℕ × List ℕ))
    (host expect : Bool) (said : Result Framing ℕ)
    → is_host_fault minor (values_of host_name fields) ≡ host
    → said ≡ framing_said minor (coding_lines (values_of transfer_encoding_name fields))
    (length_lines (values_of content_length_name fields))
    → is_expect_fault minor (values_of expect_name fields) ≡ expect
    → fields_say minor fields ≡ (if host then Err bad_request else unless expect expectation_failed said)
unfolding fields_say
fields_decide minor fields host expect said h is e =
    let coded = values_of transfer_encoding_name fields in
    let long = values_of content_length_name fields in
    let other = is_expect_fault minor (values_of expect_name fields) in
    checked_by (is_host_fault minor (values_of host_name fields)) other expectation_failed
    (framing_checks minor coded long) (framing_by fields)
    ∙ ap (λ (b : Bool). if b then Err bad_request else unless other expectation_failed
    (decided (first_fault (framing_checks minor coded long)) (framing_by fields)))
    h
    ∙ ap (λ (b : Bool). if host then Err bad_request else unless b expectation_failed
    (decided (first_fault (framing_checks minor coded long)) (framing_by fields)))
    e
    ∙ ap (λ (r : Result Framing ℕ). if host then Err bad_request else unless expect expectation_failed r)
    (sym (is ∙ framing_said_is minor coded long))

-- where the fields say a fault, it is the first, and where they say a framing there is none
pub fault_of : (minor : ℕ) (fields : List (List ℕ × List ℕ)) (code : ℕ) → fields_say minor fields ≡ Err code
    → first_fault (field_checks minor fields) ≡ Some code
unfolding fields_say
fault_of minor fields code is = by (first_fault (field_checks minor fields)) is
  where
    by : (fault : Option ℕ) → decided fault (framing_by fields) ≡ Err code → fault ≡ Some code
    by None e = absurd cc
    by (Some other) e = cc

pub framing_is : (minor : ℕ) (fields : List (List ℕ × List ℕ)) (framing : Framing)
    → fields_say minor fields ≡ Ok framing
    → (first_fault (field_checks minor fields) ≡ None) × (framing_by fields ≡ framing)
unfolding fields_say
framing_is minor fields framing is = by (first_fault (field_checks minor fields)) is
  where
    by : (fault : Option ℕ) → decided fault (framing_by fields) ≡ Ok framing
        → (fault ≡ None) × (framing_by fields ≡ framing)
    by None e = (refl, cc)
    by (Some other) e = absurd cc
