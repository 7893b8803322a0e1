-- To be believed: how the content of a request is delimited, and whether its client waits (RFC 9112,
-- section 6; RFC 9110, section 10.1.1).
use Rattle.std.specs.Prelude.{ℕ, ◌+◌, ◌*◌, ◌-◌, Bool, true, false, not, ◌&&◌, List, [], ◌∷◌, length, fold}
use Rattle.std.specs.Prelude.{get_or, if◌then◌else◌, ◌==◌, nat_le, nat_lt}
use Rattle.std.specs.List.{list_any, list_all, filter, count_by}
use Rattle.std.specs.Str.{str_eq_ignore_ascii_case}
use Rattle.warp_request.specs.LimitsAndWords.{chunked_word, continue_word}
use Rattle.warp_request.specs.declared.verdict.Framing.{Framing}
use Rattle.warp_request.specs.declared.verdict.Framing.TheVariants as framings
use Rattle.warp_request.specs.Fields.{members_of}

-- there is a line with a value
abbrev pub is_there : List (List ℕ) → Bool
is_there [] = false
is_there (value ∷ values) = true

-- the codings that Transfer-Encoding lines list, without the empty members (RFC 9110, section 5.6.1)
unfoldable pub codings_of : List (List ℕ) → List (List ℕ)
codings_of values = filter (λ member. nat_lt 0 (length member)) (members_of values)

-- a coding is `chunked`
abbrev pub is_chunked : List ℕ → Bool
is_chunked coding = str_eq_ignore_ascii_case coding chunked_word

-- the last coding is `chunked`, and no other one is (RFC 9112, sections 6.1 and 6.3)
unfoldable pub ends_in_chunked : List (List ℕ) → Bool
ends_in_chunked codings =
    is_chunked (get_or codings (length codings - 1) []) && count_by is_chunked codings == 1

-- a coding is another one
unfoldable pub has_other_coding : List (List ℕ) → Bool
has_other_coding codings = list_any (λ coding. not (is_chunked coding)) codings

-- a decimal digit
abbrev pub is_digit : ℕ → Bool
is_digit b = nat_le 48 b && nat_le b 57

-- one or more decimal digits (RFC 9110, section 8.6)
abbrev pub is_numeral : List ℕ → Bool
is_numeral member = nat_lt 0 (length member) && list_all is_digit member

-- the number after which one more decimal digit stands
abbrev pub with_decimal : ℕ → ℕ → ℕ
with_decimal n b = n * 10 + (b - 48)

-- the number that decimal digits mean
abbrev pub decimal_of : List ℕ → ℕ
decimal_of digits = fold with_decimal 0 digits

-- the length that the members of Content-Length lists say
unfoldable pub length_in : List (List ℕ) → ℕ
length_in [] = 0
length_in (member ∷ members) = decimal_of member

-- a member is no number, an empty one too, or two are different numbers (RFC 9112, section 6.3)
unfoldable pub is_length_fault : List (List ℕ) → Bool
is_length_fault members =
    not (list_all (λ member. is_numeral member && decimal_of member == length_in members) members)

-- an expectation is `100-continue`, the only one that there is (RFC 9110, section 10.1.1)
abbrev pub is_continue : List ℕ → Bool
is_continue value = str_eq_ignore_ascii_case value continue_word

-- another is expected; under HTTP/1.0 none is looked at
abbrev pub is_expect_fault : ℕ → List (List ℕ) → Bool
is_expect_fault minor values = minor == 1 && not (list_all is_continue values)

-- the framing that the values of Transfer-Encoding and Content-Length lines say
unfoldable pub framing_of : List (List ℕ) → List (List ℕ) → Framing
framing_of codings lengths =
    if is_there codings then framings.Chunked
    else (if is_there lengths then framings.Length (length_in (members_of lengths)) else framings.None)

-- content may come
abbrev pub has_content : Framing → Bool
has_content framings.None = false
has_content (framings.Length n) = nat_lt 0 n
has_content framings.Chunked = true

-- the client waits for an interim answer before it sends its content
unfoldable pub waits_for_interim : ℕ → List (List ℕ) → Framing → Bool
waits_for_interim minor expects framing = minor == 1 && (is_there expects && has_content framing)
