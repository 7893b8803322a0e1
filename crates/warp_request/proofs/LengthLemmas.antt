-- The Content-Length lines, one more at a time, and what their list of numbers says.
use Rattle.std.proofs.Common.{◌≡◌, ℕ, ◌≤◌, Bool, true, false, cond, not, List, [], ◌∷◌, ◌++◌, length, refl}
use Rattle.std.proofs.Common.{ap, ◌∙◌, sym, subst, append-nil, append_assoc, length-append, arith}
use Rattle.std.specs.Prelude.{◌&&◌, ◌==◌, fold, nat_lt, bytes_eq}
use Rattle.std.specs.List.{flat_map, list_all, slice_split}
use Rattle.std.specs.Str.{str_eq_ignore_ascii_case}
use Rattle.std.proofs.lemmas.Bool.{eq-eqb, and_parts}
use Rattle.std.proofs.lemmas.List.{length-map}
use Rattle.std.proofs.lemmas.List.Folds.{list_all-append}
use Rattle.std.proofs.lemmas.List.Splits.{length-slice_split}
use Rattle.std.proofs.lemmas.List.Sums.{fold-append}
use Rattle.httparse.specs.Grammar.{trim_ows}
use Rattle.warp_request.specs.LimitsAndWords.{content_length_name}
use Rattle.warp_request.specs.Content.{decimal_of, is_digit, is_length_fault, is_numeral, length_in}
use Rattle.warp_request.specs.Fields.{members_in, members_of, values_of}
use Rattle.warp_request.specs.NamedLines.{Lengths, absent, number, wrong, length_lines, length_with}
use Rattle.warp_request.specs.NamedLines.{lengths_with, number_behind, skip_zeros}
use Rattle.warp_request.proofs.FieldLemmas.{values_of-same, values_of-other}
use Rattle.warp_request.proofs.NumberLemmas.{begins_right, same_number, skip_decimal, skip_digits, skip_right}

-- one more field
pub length_lines-same : (fields : List (List ℕ × List ℕ)) (name value : List ℕ)
    → str_eq_ignore_ascii_case name content_length_name ≡ true
    → length_lines (values_of content_length_name (fields ++ (name, value) ∷ []))
    ≡ lengths_with (length_lines (values_of content_length_name fields)) value
unfolding length_lines
length_lines-same fields name value same =
    ap length_lines (values_of-same content_length_name fields (name, value) same)
    ∙ fold-append lengths_with absent (values_of content_length_name fields) (value ∷ [])

pub length_lines-other : (fields : List (List ℕ × List ℕ)) (name value : List ℕ)
    → str_eq_ignore_ascii_case name content_length_name ≡ false
    → length_lines (values_of content_length_name (fields ++ (name, value) ∷ []))
    ≡ length_lines (values_of content_length_name fields)
length_lines-other fields name value other =
    ap length_lines (values_of-other content_length_name fields (name, value) other)

-- ---- what the list of lengths says

-- what is known of the members where the lines say this
abbrev pub SaysLength : Lengths → List (List ℕ) → Type 0
SaysLength absent members = members ≡ []
SaysLength (number digits) members =
    (1 ≤ length members) × (is_length_fault members ≡ false) × (decimal_of digits ≡ length_in members)
    × (list_all is_digit digits ≡ true) × (begins_right digits ≡ true)
SaysLength wrong members = (1 ≤ length members) × (is_length_fault members ≡ true)

-- a member is the number
abbrev is_this : ℕ → List ℕ → Bool
is_this n member = is_numeral member && decimal_of member == n

not_not : (a b : Bool) → not a ≡ b → a ≡ not b
not_not true b e = ap not (sym (sym e))
not_not false b e = ap not (sym (sym e))

-- one member alone
one_length : (member : List ℕ) → SaysLength (length_with absent member) (member ∷ [])
unfolding is_length_fault length_in
one_length member = by (is_numeral member) refl
  where
    same : (decimal_of member == decimal_of member) ≡ true
    same = eq-eqb (decimal_of member) (decimal_of member) refl

    by : (n : Bool) → is_numeral member ≡ n
        → SaysLength (cond n (number (skip_zeros member)) wrong) (member ∷ [])
    by true e = (
      omega arith,
      rw (e, same) refl,
      skip_decimal member,
      skip_digits member (let parts =
          and_parts (nat_lt 0 (length member)) (list_all is_digit member) e in parts.1),
      skip_right member,
    )
    by false e = (omega arith, rw e refl)

-- what one more member does to a fault
fault_more : (first member : List ℕ) (members : List (List ℕ)) (fault this : Bool)
    → is_length_fault (first ∷ members) ≡ fault → is_this (decimal_of first) member ≡ this
    → is_length_fault (first ∷ members ++ member ∷ []) ≡ not (not fault && (this && true))
unfolding is_length_fault length_in
fault_more first member members fault this e f =
    ap not (
    list_all-append (is_this (decimal_of first)) (first ∷ members) (member ∷ [])
    ∙ ap (λ (b : Bool). b && (is_this (decimal_of first) member && true))
    (not_not (list_all (is_this (decimal_of first)) (first ∷ members)) fault e)
    ∙ ap (λ (b : Bool). not fault && (b && true)) f
    )

-- one more member
length_more : (lines : Lengths) (members : List (List ℕ)) (member : List ℕ) → SaysLength lines members
    → SaysLength (length_with lines member) (members ++ member ∷ [])
unfolding length_in
length_more absent members member is =
    subst (λ (ms : List (List ℕ)). SaysLength (length_with absent member) (ms ++ member ∷ []))
    (sym is) (one_length member)
length_more (number digits) [] member is = absurd (omega (arith, is.0))
length_more (number digits) (first ∷ members) member is = by (is_numeral member) refl
  where
    size : 1 ≤ length (first ∷ members ++ member ∷ [])
    size = omega arith

    value : decimal_of digits ≡ decimal_of first
    value = is.2

    with_number : (list_all is_digit member ≡ true) → is_numeral member ≡ true → (same : Bool)
        → bytes_eq digits (skip_zeros member) ≡ same
        → SaysLength (cond same (number digits) wrong) (first ∷ members ++ member ∷ [])
    with_number all e true same =
        let number_is : (decimal_of member == decimal_of first) ≡ true =
        ap (λ n. decimal_of member == n) (sym value) ∙ sym (same_number digits member is.4 is.3 all) ∙ same in
        (size, fault_more first member members false true is.1 (rw (e, number_is) refl), value, is.3, is.4)
    with_number all e false same =
        let number_is : (decimal_of member == decimal_of first) ≡ false =
        ap (λ n. decimal_of member == n) (sym value) ∙ sym (same_number digits member is.4 is.3 all) ∙ same in
        (size, fault_more first member members false false is.1 (rw (e, number_is) refl))

    by : (n : Bool) → is_numeral member ≡ n
        → SaysLength (cond n (number_behind (number digits) (skip_zeros member)) wrong)
        (first ∷ members ++ member ∷ [])
    by true e =
        with_number (let parts = and_parts (nat_lt 0 (length member)) (list_all is_digit member) e in parts.1)
        e (bytes_eq digits (skip_zeros member)) refl
    by false e = (size, fault_more first member members false false is.1 (rw e refl))
length_more wrong [] member is = absurd (omega (arith, is.0))
length_more wrong (first ∷ members) member is = by (is_numeral member)
  where
    by : (n : Bool) → SaysLength (cond n wrong wrong) (first ∷ members ++ member ∷ [])
    by true =
        (omega arith, fault_more first member members true (is_this (decimal_of first) member) is.1 refl)
    by false =
        (omega arith, fault_more first member members true (is_this (decimal_of first) member) is.1 refl)

-- all members after others
lengths_behind : (lines : Lengths) (before members : List (List ℕ)) → SaysLength lines before
    → SaysLength (fold length_with lines members) (before ++ members)
lengths_behind lines before [] is =
    subst (λ (ms : List (List ℕ)). SaysLength lines ms) (sym (append-nil before)) is
lengths_behind lines before (member ∷ members) is =
    subst (λ (ms : List (List ℕ)). SaysLength (fold length_with (length_with lines member) members) ms)
    (append_assoc before (member ∷ []) members)
    (lengths_behind (length_with lines member) (before ++ member ∷ []) members
    (length_more lines before member is))

-- line by line is member by member
by_members : (lines : Lengths) (values : List (List ℕ))
    → fold lengths_with lines values ≡ fold length_with lines (members_of values)
unfolding members_of
by_members lines [] = refl
by_members lines (value ∷ values) =
    by_members (lengths_with lines value) values
    ∙ sym (fold-append length_with lines (members_in value) (flat_map members_in values))

-- what the lines say of their list
pub length_lines_say : (values : List (List ℕ)) → SaysLength (length_lines values) (members_of values)
unfolding length_lines
length_lines_say values =
    subst (λ (lines : Lengths). SaysLength lines (members_of values)) (sym (by_members absent values))
    (lengths_behind absent [] (members_of values) refl)

-- a line has a member
pub some_member : (value : List ℕ) (values : List (List ℕ)) → 1 ≤ length (members_of (value ∷ values))
unfolding members_of
some_member value values =
    omega (
      arith,
      length-append (members_in value) (flat_map members_in values),
      length-map (slice_split (λ b. b == 44) value) trim_ows,
      length-slice_split (λ b. b == 44) value,
    )
