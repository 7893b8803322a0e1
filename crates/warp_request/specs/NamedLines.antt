-- Inner: what the lines of each name say together, as the code keeps it.
use Rattle.std.specs.Prelude.{◌≡◌, ℕ, Bool, true, false, ◌||◌, List, [], ◌∷◌, Option, Some, None, Result, Ok}
use Rattle.std.specs.Prelude.{Err, bytes_eq, fold, length, if◌then◌else◌, ◌==◌, nat_lt}
use Rattle.std.specs.List.{list_all}
use Rattle.std.specs.Str.{str_eq_ignore_ascii_case}
use Rattle.warp_request.specs.declared.coding.CodingLines.{CodingLines}
use Rattle.warp_request.specs.declared.coding.CodingLines.TheVariants as codings
use Rattle.warp_request.specs.declared.connection.ConnectionLines.{ConnectionLines}
use Rattle.warp_request.specs.declared.expect.ExpectLines.{ExpectLines}
use Rattle.warp_request.specs.declared.expect.ExpectLines.TheVariants as expects
use Rattle.warp_request.specs.declared.fields.NamedLines.{NamedLines}
use Rattle.warp_request.specs.declared.names.KnownName.{KnownName}
use Rattle.warp_request.specs.declared.names.KnownName.TheVariants as names
use Rattle.warp_request.specs.declared.host.HostLines.{HostLines}
use Rattle.warp_request.specs.declared.host.HostLines.TheVariants.{Absent, Right, Wrong}
use Rattle.warp_request.specs.declared.length.LengthLines.{LengthLines}
use Rattle.warp_request.specs.declared.length.LengthLines.TheVariants as lengths
use Rattle.warp_request.specs.LimitsAndWords.{body_limit, host_name, connection_name, transfer_encoding_name}
use Rattle.warp_request.specs.LimitsAndWords.{content_length_name, expect_name, close_word, keep_alive_word}
use Rattle.warp_response.specs.Statuses.{bad_request, content_too_large, not_implemented}
use Rattle.warp_request.specs.declared.verdict.Framing.{Framing}
use Rattle.warp_request.specs.declared.verdict.Framing.TheVariants as framings
use Rattle.warp_request.specs.Checks.{field_checks, first_fault, framing_by}
use Rattle.warp_request.specs.Content.{decimal_of, is_chunked, is_continue, is_numeral}
use Rattle.warp_request.specs.Fields.{values_of, has_member, has_word, is_host_byte, members_in}

-- two names are the same but for the case of ASCII letters
abbrev pub is_name : List ℕ → List ℕ → Bool
is_name name text = str_eq_ignore_ascii_case name text

-- a name is none of those that decide about a request
pub record IsOther (name : List ℕ) : Type 0 where
  pub host : is_name name host_name ≡ false
  pub connection : is_name name connection_name ≡ false
  pub codings : is_name name transfer_encoding_name ≡ false
  pub lengths : is_name name content_length_name ≡ false
  pub expect : is_name name expect_name ≡ false

-- a name is the one that was found
abbrev pub IsKnown : List ℕ → KnownName → Type 0
IsKnown name names.Host = is_name name host_name ≡ true
IsKnown name names.Connection = is_name name connection_name ≡ true
IsKnown name names.TransferEncoding = is_name name transfer_encoding_name ≡ true
IsKnown name names.ContentLength = is_name name content_length_name ≡ true
IsKnown name names.Expect = is_name name expect_name ≡ true
IsKnown name names.Other = IsOther name

-- what Host lines with these values say
unfoldable pub host_lines : List (List ℕ) → HostLines
host_lines [] = Absent
host_lines (value ∷ []) = if list_all is_host_byte value then Right else Wrong
host_lines (value ∷ other ∷ more) = Wrong

-- with one more line
abbrev pub host_with : HostLines → List ℕ → HostLines
host_with Absent value = if list_all is_host_byte value then Right else Wrong
host_with Right value = Wrong
host_with Wrong value = Wrong

-- what Connection lines with these values say
unfoldable pub connection_lines : List (List ℕ) → ConnectionLines
connection_lines values = record {
  close = has_member close_word values;
  keep_alive = has_member keep_alive_word values;
}

-- with one more line
abbrev pub connection_with : ConnectionLines → List ℕ → ConnectionLines
connection_with lines value = record {
  close = lines.close || has_word close_word value;
  keep_alive = lines.keep_alive || has_word keep_alive_word value;
}

-- Transfer-Encoding lines after the beginning of one more
abbrev pub opened : CodingLines → CodingLines
opened codings.Absent = codings.Empty
opened lines = lines

-- after one more coding, of which it is known whether it is `chunked`
abbrev pub coding_behind : Bool → CodingLines → CodingLines
coding_behind chunked codings.Absent = if chunked then codings.Chunked else codings.Others
coding_behind chunked codings.Empty = if chunked then codings.Chunked else codings.Others
coding_behind chunked codings.Others = if chunked then codings.OthersChunked else codings.Others
coding_behind chunked _ = codings.Wrong

-- with one more member of the list
abbrev pub coding_with : CodingLines → List ℕ → CodingLines
coding_with lines member = if length member == 0 then lines else coding_behind (is_chunked member) lines

-- with one more line
abbrev pub codings_with : CodingLines → List ℕ → CodingLines
codings_with lines value = fold coding_with (opened lines) (members_in value)

-- what Transfer-Encoding lines with these values say
unfoldable pub coding_lines : List (List ℕ) → CodingLines
coding_lines values = fold codings_with codings.Absent values

-- what Content-Length lines say: nothing, one number by its digits, or something wrong
pub data Lengths : Type 0 where
  absent : Lengths
  number : List ℕ → Lengths
  wrong : Lengths

-- what the kept Content-Length lines say
abbrev pub lengths_shown : LengthLines → Lengths
lengths_shown lengths.Absent = absent
lengths_shown (lengths.Number digits) = number digits.now
lengths_shown lengths.Wrong = wrong

-- the digits from the first that is no zero
unfoldable pub skip_zeros : List ℕ → List ℕ
skip_zeros [] = []
skip_zeros (d ∷ digits) = if d == 48 then skip_zeros digits else d ∷ digits

-- with one more number
abbrev pub number_behind : Lengths → List ℕ → Lengths
number_behind absent digits = number digits
number_behind (number first) digits = if bytes_eq first digits then number first else wrong
number_behind wrong digits = wrong

-- with one more member of the list
abbrev pub length_with : Lengths → List ℕ → Lengths
length_with lines member = if is_numeral member then number_behind lines (skip_zeros member) else wrong

-- with one more line
abbrev pub lengths_with : Lengths → List ℕ → Lengths
lengths_with lines value = fold length_with lines (members_in value)

-- what Content-Length lines with these values say
unfoldable pub length_lines : List (List ℕ) → Lengths
length_lines values = fold lengths_with absent values

-- with one more line
abbrev pub expect_with : ExpectLines → List ℕ → ExpectLines
expect_with expects.Other value = expects.Other
expect_with _ value = if is_continue value then expects.Continue else expects.Other

-- what Expect lines with these values say
unfoldable pub expect_lines : List (List ℕ) → ExpectLines
expect_lines [] = expects.Absent
expect_lines (value ∷ values) =
    if list_all is_continue (value ∷ values) then expects.Continue else expects.Other

-- something other than `100-continue` is expected
abbrev pub expects_other : ExpectLines → Bool
expects_other expects.Other = true
expects_other _ = false

-- something is expected
abbrev pub expects_some : ExpectLines → Bool
expects_some expects.Absent = false
expects_some _ = true

-- what the fields say, name by name
pub record Named : Type 0 where
  pub host : HostLines
  pub connection : ConnectionLines
  pub codings : CodingLines
  pub lengths : Lengths
  pub expect : ExpectLines

-- what the kept lines say
abbrev pub lines_shown : NamedLines → Named
lines_shown lines = record {
  host = lines.host;
  connection = lines.connection;
  codings = lines.codings;
  lengths = lengths_shown lines.lengths;
  expect = lines.expect;
}

-- what these fields say, name by name
unfoldable pub named_lines : List (List ℕ × List ℕ) → Named
named_lines fields = record {
  host = host_lines (values_of host_name fields);
  connection = connection_lines (values_of connection_name fields);
  codings = coding_lines (values_of transfer_encoding_name fields);
  lengths = length_lines (values_of content_length_name fields);
  expect = expect_lines (values_of expect_name fields);
}

-- the framing, or the status of the fault that was found
abbrev pub decided : Option ℕ → Framing → Result Framing ℕ
decided (Some code) framing = Err code
decided None framing = Ok framing

-- what the fields of a head of this minor version say of its content
unfoldable pub fields_say : ℕ → List (List ℕ × List ℕ) → Result Framing ℕ
fields_say minor fields = decided (first_fault (field_checks minor fields)) (framing_by fields)

-- no Content-Length line is there
abbrev pub is_absent : Lengths → Bool
is_absent absent = true
is_absent _ = false

-- the framing that a number says, within the limit
abbrev pub framing_within : ℕ → Result Framing ℕ
framing_within n = if nat_lt body_limit n then Err content_too_large else Ok (framings.Length n)

-- the framing where no Transfer-Encoding line is there
abbrev pub framing_by_length : Lengths → Result Framing ℕ
framing_by_length absent = Ok framings.None
framing_by_length (number digits) = framing_within (decimal_of digits)
framing_by_length wrong = Err bad_request

-- the framing where Transfer-Encoding lines of this kind are there, and no other length
abbrev pub framing_by_codings : CodingLines → Result Framing ℕ
framing_by_codings codings.Chunked = Ok framings.Chunked
framing_by_codings codings.OthersChunked = Err not_implemented
framing_by_codings _ = Err bad_request

-- the framing in a head of this minor version
abbrev pub framing_said : ℕ → CodingLines → Lengths → Result Framing ℕ
framing_said minor codings.Absent lengths = framing_by_length lengths
framing_said minor lines lengths =
    if minor == 0 then Err bad_request
    else (if is_absent lengths then framing_by_codings lines else Err bad_request)
