-- To be believed: the fields of a head by name; each is a name and a value without the
-- spaces and tabs at its ends.
use Rattle.std.specs.Prelude.{ℕ, Bool, true, not, ◌&&◌, ◌||◌, List, [], ◌∷◌, map, codes, ◌==◌}
use Rattle.std.specs.List.{list_any, list_all, filter, flat_map, slice_split}
use Rattle.std.specs.Char.{is_ascii_alphanumeric}
use Rattle.std.specs.Str.{str_eq_ignore_ascii_case}
use Rattle.httparse.specs.Ascii.{comma}
use Rattle.httparse.specs.Grammar.{trim_ows}
use Rattle.warp_request.specs.LimitsAndWords.{close_word, keep_alive_word}

-- the values of the lines of a name, in order (RFC 9110, section 5.3)
unfoldable pub values_of : List ℕ → List (List ℕ × List ℕ) → List (List ℕ)
values_of name fields = map (λ f. f.1) (filter (λ f. str_eq_ignore_ascii_case f.0 name) fields)

-- the members of a value that is a list: what stands between its commas, without the spaces and tabs at the
-- ends (RFC 9110, section 5.6.1)
abbrev pub members_in : List ℕ → List (List ℕ)
members_in value = map trim_ows (slice_split (λ b. b == comma) value)

-- the members of the list that all lines of a name make, in order (RFC 9110, section 5.3)
unfoldable pub members_of : List (List ℕ) → List (List ℕ)
members_of values = flat_map members_in values

-- the word is a member of a value that is a list
unfoldable pub has_word : List ℕ → List ℕ → Bool
has_word word value = list_any (λ member. str_eq_ignore_ascii_case member word) (members_in value)

-- the word is a member of the list that all lines of a name make
unfoldable pub has_member : List ℕ → List (List ℕ) → Bool
has_member word values = list_any (λ member. str_eq_ignore_ascii_case member word) (members_of values)

-- a byte of a host and port (RFC 3986, section 3.2.2)
unfoldable pub is_host_byte : ℕ → Bool
is_host_byte b = is_ascii_alphanumeric b || list_any (λ c. c == b) (codes "-._~!$&'()*+,;=%:[]")

-- no Host line under HTTP/1.1, two of them, or one with a byte that no host has (RFC 9112, section 3.2)
unfoldable pub is_host_fault : ℕ → List (List ℕ) → Bool
is_host_fault minor [] = minor == 1
is_host_fault minor (value ∷ []) = not (list_all is_host_byte value)
is_host_fault minor (value ∷ other ∷ more) = true

-- the connection stays open after the answer (RFC 9112, section 9.3)
unfoldable pub stays_open : ℕ → List (List ℕ) → Bool
stays_open minor values =
    not (has_member close_word values) && (minor == 1 || has_member keep_alive_word values)
