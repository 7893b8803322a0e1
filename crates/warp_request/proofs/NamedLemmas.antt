-- What the fields say, the part of each name.
use Rattle.std.proofs.Common.{◌≡◌, ℕ, true, false, List, ap, ◌∙◌}
use Rattle.std.specs.Prelude.{bytes_eq}
use Rattle.std.specs.Str.{str_to_ascii_lowercase}
use Rattle.std.proofs.lemmas.Slice.Eq.{bytes_eq-Decides}
use Rattle.warp_request.specs.declared.coding.CodingLines.{CodingLines}
use Rattle.warp_request.specs.declared.fields.NamedLines.{NamedLines}
use Rattle.warp_request.specs.LimitsAndWords.{host_name, connection_name, transfer_encoding_name}
use Rattle.warp_request.specs.LimitsAndWords.{content_length_name, expect_name}
use Rattle.warp_request.specs.Fields.{values_of}
use Rattle.warp_request.specs.NamedLines.{Lengths, Named, framing_said, coding_lines, connection_lines}
use Rattle.warp_request.specs.NamedLines.{expect_lines, host_lines, length_lines, lengths_shown, lines_shown}
use Rattle.warp_request.specs.NamedLines.{named_lines, is_name}

pub host_is : (lines : NamedLines) (fields : List (List ℕ × List ℕ)) → lines_shown lines ≡ named_lines fields
    → lines.host ≡ host_lines (values_of host_name fields)
unfolding named_lines
host_is lines fields is = ap (λ (l : Named). l.host) is

pub connection_is : (lines : NamedLines) (fields : List (List ℕ × List ℕ))
    → lines_shown lines ≡ named_lines fields
    → lines.connection ≡ connection_lines (values_of connection_name fields)
unfolding named_lines
connection_is lines fields is = ap (λ (l : Named). l.connection) is

pub codings_are : (lines : NamedLines) (fields : List (List ℕ × List ℕ))
    → lines_shown lines ≡ named_lines fields
    → lines.codings ≡ coding_lines (values_of transfer_encoding_name fields)
unfolding named_lines
codings_are lines fields is = ap (λ (l : Named). l.codings) is

pub lengths_are : (lines : NamedLines) (fields : List (List ℕ × List ℕ))
    → lines_shown lines ≡ named_lines fields
    → lengths_shown lines.lengths ≡ length_lines (values_of content_length_name fields)
unfolding named_lines
lengths_are lines fields is = ap (λ (l : Named). l.lengths) is

pub expect_is : (lines : NamedLines) (fields : List (List ℕ × List ℕ))
    → lines_shown lines ≡ named_lines fields → lines.expect ≡ expect_lines (values_of expect_name fields)
unfolding named_lines
expect_is lines fields is = ap (λ (l : Named). l.expect) is

-- what each name's lines say is what they say together
pub named_by_parts : (lines : NamedLines) (fields : List (List ℕ × List ℕ))
    → lines.host ≡ host_lines (values_of host_name fields)
    → lines.connection ≡ connection_lines (values_of connection_name fields)
    → lines.codings ≡ coding_lines (values_of transfer_encoding_name fields)
    → lengths_shown lines.lengths ≡ length_lines (values_of content_length_name fields)
    → lines.expect ≡ expect_lines (values_of expect_name fields) → lines_shown lines ≡ named_lines fields
unfolding named_lines
named_by_parts lines fields host connection codings lengths expect = cc

-- what the lines of two names decide
pub said_is : (minor : ℕ) (lines : NamedLines) (fields : List (List ℕ × List ℕ))
    → lines_shown lines ≡ named_lines fields
    → framing_said minor lines.codings (lengths_shown lines.lengths)
    ≡ framing_said minor (coding_lines (values_of transfer_encoding_name fields))
    (length_lines (values_of content_length_name fields))
said_is minor lines fields is =
    ap (λ (k : CodingLines). framing_said minor k (lengths_shown lines.lengths)) (codings_are lines fields is)
    ∙ ap (λ (l : Lengths). framing_said minor (coding_lines (values_of transfer_encoding_name fields)) l)
    (lengths_are lines fields is)

-- ---- which name a name is

-- a name that is one text is no other
pub apart : (name text other : List ℕ) → is_name name text ≡ true → is_name text other ≡ false
    → is_name name other ≡ false
apart name text other same differs =
    let lower : str_to_ascii_lowercase name ≡ str_to_ascii_lowercase text =
    (bytes_eq-Decides (str_to_ascii_lowercase name) (str_to_ascii_lowercase text)).0 same in
    ap (λ (l : List ℕ). bytes_eq l (str_to_ascii_lowercase other)) lower ∙ differs
