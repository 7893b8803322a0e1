-- The Transfer-Encoding lines, one more at a time, and what their list of codings says.
use Rattle.std.proofs.Common.{◌≡◌, ℕ, ◌+◌, ◌-◌, ◌≤◌, Bool, true, false, cond, not, List, [], ◌∷◌, ◌++◌}
use Rattle.std.proofs.Common.{length, get_or, refl, ap, ◌∙◌, sym, subst, append-nil, append_assoc}
use Rattle.std.proofs.Common.{length-append, arith}
use Rattle.std.specs.Prelude.{◌&&◌, ◌||◌, ◌==◌, fold, nat_lt}
use Rattle.std.specs.List.{count_by, filter, flat_map}
use Rattle.std.specs.Str.{str_eq_ignore_ascii_case}
use Rattle.std.proofs.Math.Seq.{get_or-append_seam}
use Rattle.std.proofs.lemmas.Bool.Decides.{nat_tests}
use Rattle.std.proofs.lemmas.List.Folds.{list_any-append}
use Rattle.std.proofs.lemmas.List.Sums.{fold-append, sum_by-append}
use Rattle.std.proofs.Math.Bool.{and-false, or-false}
use Rattle.warp_request.specs.declared.coding.CodingLines.{CodingLines}
use Rattle.warp_request.specs.declared.coding.CodingLines.TheVariants.{Absent, Empty, Others, Chunked}
use Rattle.warp_request.specs.declared.coding.CodingLines.TheVariants.{OthersChunked, Wrong}
use Rattle.warp_request.specs.LimitsAndWords.{transfer_encoding_name}
use Rattle.warp_request.specs.Content.{codings_of, ends_in_chunked, has_other_coding, is_chunked}
use Rattle.warp_request.specs.Fields.{members_in, members_of, values_of}
use Rattle.warp_request.specs.NamedLines.{coding_behind, coding_lines, coding_with, codings_with, opened}
use Rattle.warp_request.proofs.FieldLemmas.{values_of-same, values_of-other}

-- one more field
pub coding_lines-same : (fields : List (List ℕ × List ℕ)) (name value : List ℕ)
    → str_eq_ignore_ascii_case name transfer_encoding_name ≡ true
    → coding_lines (values_of transfer_encoding_name (fields ++ (name, value) ∷ []))
    ≡ codings_with (coding_lines (values_of transfer_encoding_name fields)) value
unfolding coding_lines
coding_lines-same fields name value same =
    ap coding_lines (values_of-same transfer_encoding_name fields (name, value) same)
    ∙ fold-append codings_with Absent (values_of transfer_encoding_name fields) (value ∷ [])

pub coding_lines-other : (fields : List (List ℕ × List ℕ)) (name value : List ℕ)
    → str_eq_ignore_ascii_case name transfer_encoding_name ≡ false
    → coding_lines (values_of transfer_encoding_name (fields ++ (name, value) ∷ []))
    ≡ coding_lines (values_of transfer_encoding_name fields)
coding_lines-other fields name value other =
    ap coding_lines (values_of-other transfer_encoding_name fields (name, value) other)

-- ---- what the list of codings says

-- the last coding is `chunked`
abbrev ends : List (List ℕ) → Bool
ends codings = is_chunked (get_or codings (length codings - 1) [])

-- what is known of the codings where the lines say this
abbrev pub SaysCoding : CodingLines → List (List ℕ) → Type 0
SaysCoding Absent codings = ⊥
SaysCoding Empty codings = codings ≡ []
SaysCoding Others codings = (count_by is_chunked codings ≡ 0) × (has_other_coding codings ≡ true)
SaysCoding Chunked codings =
    (ends codings ≡ true) × (count_by is_chunked codings ≡ 1) × (has_other_coding codings ≡ false)
SaysCoding OthersChunked codings =
    (ends codings ≡ true) × (count_by is_chunked codings ≡ 1) × (has_other_coding codings ≡ true)
SaysCoding Wrong codings = (1 ≤ count_by is_chunked codings) × (ends_in_chunked codings ≡ false)

ends_more : (codings : List (List ℕ)) (c : List ℕ) (b : Bool) → is_chunked c ≡ b
    → ends (codings ++ c ∷ []) ≡ b
ends_more codings c b e =
    let size = length-append codings (c ∷ []) in
    let at : length (codings ++ c ∷ []) - 1 ≡ length codings = omega (arith, size) in
    ap (λ n. is_chunked (get_or (codings ++ c ∷ []) n [])) at
    ∙ ap is_chunked (get_or-append_seam codings c [] []) ∙ e

count_more : (codings : List (List ℕ)) (c : List ℕ) (b : Bool) → is_chunked c ≡ b
    → count_by is_chunked (codings ++ c ∷ []) ≡ count_by is_chunked codings + cond b 1 0
count_more codings c b e =
    let all = sum_by-append (λ (x : List ℕ). cond (is_chunked x) 1 0) codings (c ∷ []) in
    let one = ap {B = ℕ} (λ (x : Bool). cond x 1 0) e in
    omega (arith, all, one)

other_more : (codings : List (List ℕ)) (c : List ℕ) (b o : Bool) → is_chunked c ≡ b
    → has_other_coding codings ≡ o → has_other_coding (codings ++ c ∷ []) ≡ (o || not b)
unfolding has_other_coding
other_more codings c b o e f =
    list_any-append (λ (x : List ℕ). not (is_chunked x)) codings (c ∷ [])
    ∙ ap (λ (x : Bool). x || (not (is_chunked c) || false)) f
    ∙ ap (λ (x : Bool). o || x) (or-false (not (is_chunked c)) ∙ ap not e)

-- after `chunked` another coding is wrong
wrong_more : (codings : List (List ℕ)) (c : List ℕ) (b : Bool) → is_chunked c ≡ b
    → 1 ≤ count_by is_chunked codings → SaysCoding Wrong (codings ++ c ∷ [])
unfolding ends_in_chunked
wrong_more codings c true e some =
    let count = count_more codings c true e in
    let many : (count_by is_chunked (codings ++ c ∷ []) == 1) ≡ false = grind (arith, nat_tests) in (
      omega (arith, count, some),
      ap (λ (x : Bool). ends (codings ++ c ∷ []) && x) many ∙ and-false (ends (codings ++ c ∷ [])),
    )
wrong_more codings c false e some =
    let count = count_more codings c false e in (
      omega (arith, count, some),
      ap (λ (x : Bool). x && count_by is_chunked (codings ++ c ∷ []) == 1) (ends_more codings c false e),
    )

-- one more coding
coding_more : (lines : CodingLines) (codings : List (List ℕ)) (c : List ℕ) (b : Bool) → is_chunked c ≡ b
    → SaysCoding lines codings → SaysCoding (coding_behind b lines) (codings ++ c ∷ [])
unfolding has_other_coding
coding_more Absent codings c b e is = absurd is
coding_more Empty codings c true e is =
    let none : count_by is_chunked codings ≡ 0 = ap (count_by is_chunked) is in
    let count = count_more codings c true e in (
      ends_more codings c true e,
      omega (arith, count, none),
      other_more codings c true false e (ap has_other_coding is),
    )
coding_more Empty codings c false e is =
    let none : count_by is_chunked codings ≡ 0 = ap (count_by is_chunked) is in
    let count = count_more codings c false e in
    (omega (arith, count, none), other_more codings c false false e (ap has_other_coding is))
coding_more Others codings c true e is = (
  ends_more codings c true e,
  (let count = count_more codings c true e in omega (arith, count, is.0)),
  other_more codings c true true e is.1,
)
coding_more Others codings c false e is = (
  (let count = count_more codings c false e in omega (arith, count, is.0)),
  other_more codings c false true e is.1,
)
coding_more Chunked codings c b e is = wrong_more codings c b e (omega (arith, is.1))
coding_more OthersChunked codings c b e is = wrong_more codings c b e (omega (arith, is.1))
coding_more Wrong codings c b e is = wrong_more codings c b e is.0

-- a member that isn't empty
abbrev is_some : List ℕ → Bool
is_some member = nat_lt 0 (length member)

-- all members after others
codings_behind : (lines : CodingLines) (before members : List (List ℕ)) → SaysCoding lines before
    → SaysCoding (fold coding_with lines members) (before ++ filter is_some members)
codings_behind lines before [] is =
    subst (λ (l : List (List ℕ)). SaysCoding lines l) (sym (append-nil before)) is
codings_behind lines before (member ∷ members) is =
    by (length member == 0) refl (codings_behind lines before members is)
    (codings_behind (coding_behind (is_chunked member) lines) (before ++ member ∷ []) members
    (coding_more lines before member (is_chunked member) refl is))
  where
    by : (none : Bool) → (length member == 0) ≡ none
        → SaysCoding (fold coding_with lines members) (before ++ filter is_some members)
        → SaysCoding (fold coding_with (coding_behind (is_chunked member) lines) members)
        (before ++ member ∷ [] ++ filter is_some members)
        → SaysCoding (fold coding_with (cond none lines (coding_behind (is_chunked member) lines)) members)
        (before ++ cond (is_some member) (member ∷ filter is_some members) (filter is_some members))
    by true e skip take =
        let none : is_some member ≡ false = grind (arith, nat_tests) in
        subst (λ (x : Bool). SaysCoding (fold coding_with lines members)
        (before ++ cond x (member ∷ filter is_some members) (filter is_some members)))
        (sym none) skip
    by false e skip take =
        let some : is_some member ≡ true = grind (arith, nat_tests) in
        subst (λ (x : Bool). SaysCoding (fold coding_with (coding_behind (is_chunked member) lines) members)
        (before ++ cond x (member ∷ filter is_some members) (filter is_some members)))
        (sym some)
        (subst (λ (l : List (List ℕ)).
        SaysCoding (fold coding_with (coding_behind (is_chunked member) lines) members) l)
        (append_assoc before (member ∷ []) (filter is_some members)) take)

-- a line that began stays begun
open_behind : (b : Bool) (lines : CodingLines) → opened (coding_behind b lines) ≡ coding_behind b lines
open_behind true Absent = refl
open_behind false Absent = refl
open_behind true Empty = refl
open_behind false Empty = refl
open_behind true Others = refl
open_behind false Others = refl
open_behind b Chunked = refl
open_behind b OthersChunked = refl
open_behind b Wrong = refl

open_with : (lines : CodingLines) (member : List ℕ) → opened lines ≡ lines
    → opened (coding_with lines member) ≡ coding_with lines member
open_with lines member is = by (length member == 0)
  where
    by : (none : Bool) → opened (cond none lines (coding_behind (is_chunked member) lines))
        ≡ cond none lines (coding_behind (is_chunked member) lines)
    by true = is
    by false = open_behind (is_chunked member) lines

stays_open : (lines : CodingLines) (members : List (List ℕ)) → opened lines ≡ lines
    → opened (fold coding_with lines members) ≡ fold coding_with lines members
stays_open lines [] is = is
stays_open lines (member ∷ members) is =
    stays_open (coding_with lines member) members (open_with lines member is)

-- line by line is member by member
by_members : (lines : CodingLines) (values : List (List ℕ)) → opened lines ≡ lines
    → fold codings_with lines values ≡ fold coding_with lines (members_of values)
unfolding members_of
by_members lines [] is = refl
by_members lines (value ∷ values) is =
    ap (λ (l : CodingLines). fold codings_with (fold coding_with l (members_in value)) values) is
    ∙ by_members (fold coding_with lines (members_in value)) values (stays_open lines (members_in value) is)
    ∙ sym (fold-append coding_with lines (members_in value) (flat_map members_in values))

-- what the lines say of their list
pub coding_lines_say : (value : List ℕ) (values : List (List ℕ))
    → SaysCoding (coding_lines (value ∷ values)) (codings_of (value ∷ values))
unfolding coding_lines codings_of
coding_lines_say value values =
    subst (λ (lines : CodingLines). SaysCoding lines (filter is_some (members_of (value ∷ values))))
    (sym (by_members Empty (value ∷ values) refl))
    (codings_behind Empty [] (members_of (value ∷ values)) refl)
