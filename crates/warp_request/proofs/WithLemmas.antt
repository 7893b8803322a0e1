-- One more field, by the name that it has.
use Rattle.std.proofs.Common.{◌≡◌, ℕ, true, List, [], ◌∷◌, ◌++◌, refl, sym, ap, ◌∙◌}
use Rattle.warp_request.specs.declared.coding.CodingLines.{CodingLines}
use Rattle.warp_request.specs.declared.connection.ConnectionLines.{ConnectionLines}
use Rattle.warp_request.specs.declared.expect.ExpectLines.{ExpectLines}
use Rattle.warp_request.specs.declared.fields.NamedLines.{NamedLines}
use Rattle.warp_request.specs.declared.host.HostLines.{HostLines}
use Rattle.warp_request.specs.declared.length.LengthLines.{LengthLines}
use Rattle.warp_request.specs.LimitsAndWords.{host_name, connection_name, transfer_encoding_name}
use Rattle.warp_request.specs.LimitsAndWords.{content_length_name, expect_name}
use Rattle.warp_request.specs.NamedLines.{Lengths, host_with, connection_with, codings_with, lengths_with}
use Rattle.warp_request.specs.NamedLines.{expect_with, lengths_shown, lines_shown, named_lines, is_name}
use Rattle.warp_request.specs.NamedLines.{IsOther}
use Rattle.warp_request.proofs.CodingLemmas.{coding_lines-same, coding_lines-other}
use Rattle.warp_request.proofs.ConnectionLemmas.{connection_lines-same, connection_lines-other}
use Rattle.warp_request.proofs.ExpectLemmas.{expect_lines-same, expect_lines-other}
use Rattle.warp_request.proofs.HostLemmas.{host_lines-same, host_lines-other}
use Rattle.warp_request.proofs.LengthLemmas.{length_lines-same, length_lines-other}
use Rattle.warp_request.proofs.NamedLemmas.{apart, codings_are, connection_is, expect_is, host_is}
use Rattle.warp_request.proofs.NamedLemmas.{lengths_are, named_by_parts}

pub with_host : (lines : NamedLines) (fields : List (List ℕ × List ℕ))
    (name value : List ℕ) (line : HostLines)
    → is_name name host_name ≡ true
    → line ≡ host_with lines.host value → lines_shown lines ≡ named_lines fields
    → lines_shown (record lines { host = line }) ≡ named_lines (fields ++ (name, value) ∷ [])
with_host lines fields name value line same next is =
    named_by_parts (record lines { host = line }) (fields ++ (name, value) ∷ [])
    (next ∙ ap (λ (l : HostLines). host_with l value) (host_is lines fields is)
    ∙ sym (host_lines-same fields name value same))
    (connection_is lines fields is
    ∙ sym (connection_lines-other fields name value (apart name host_name connection_name same refl)))
    (codings_are lines fields is
    ∙ sym (coding_lines-other fields name value (apart name host_name transfer_encoding_name same refl)))
    (lengths_are lines fields is
    ∙ sym (length_lines-other fields name value (apart name host_name content_length_name same refl)))
    (expect_is lines fields is
    ∙ sym (expect_lines-other fields name value (apart name host_name expect_name same refl)))

pub with_connection : (lines : NamedLines) (fields : List (List ℕ × List ℕ))
    (name value : List ℕ) (line : ConnectionLines)
    → is_name name connection_name ≡ true
    → line ≡ connection_with lines.connection value → lines_shown lines ≡ named_lines fields
    → lines_shown (record lines { connection = line }) ≡ named_lines (fields ++ (name, value) ∷ [])
with_connection lines fields name value line same next is =
    named_by_parts (record lines { connection = line }) (fields ++ (name, value) ∷ [])
    (host_is lines fields is
    ∙ sym (host_lines-other fields name value (apart name connection_name host_name same refl)))
    (next ∙ ap (λ (l : ConnectionLines). connection_with l value) (connection_is lines fields is)
    ∙ sym (connection_lines-same fields name value same))
    (codings_are lines fields is ∙ sym
    (coding_lines-other fields name value (apart name connection_name transfer_encoding_name same refl)))
    (lengths_are lines fields is
    ∙ sym (length_lines-other fields name value (apart name connection_name content_length_name same refl)))
    (expect_is lines fields is
    ∙ sym (expect_lines-other fields name value (apart name connection_name expect_name same refl)))

pub with_coding : (lines : NamedLines) (fields : List (List ℕ × List ℕ))
    (name value : List ℕ) (line : CodingLines)
    → is_name name transfer_encoding_name ≡ true
    → line ≡ codings_with lines.codings value → lines_shown lines ≡ named_lines fields
    → lines_shown (record lines { codings = line }) ≡ named_lines (fields ++ (name, value) ∷ [])
with_coding lines fields name value line same next is =
    named_by_parts (record lines { codings = line }) (fields ++ (name, value) ∷ [])
    (host_is lines fields is
    ∙ sym (host_lines-other fields name value (apart name transfer_encoding_name host_name same refl)))
    (connection_is lines fields is ∙ sym
    (connection_lines-other fields name value (apart name transfer_encoding_name connection_name same refl)))
    (next ∙ ap (λ (l : CodingLines). codings_with l value) (codings_are lines fields is)
    ∙ sym (coding_lines-same fields name value same))
    (lengths_are lines fields is ∙ sym
    (length_lines-other fields name value (apart name transfer_encoding_name content_length_name same refl)))
    (expect_is lines fields is
    ∙ sym (expect_lines-other fields name value (apart name transfer_encoding_name expect_name same refl)))

pub with_length : (lines : NamedLines) (fields : List (List ℕ × List ℕ))
    (name value : List ℕ) (line : LengthLines)
    → is_name name content_length_name ≡ true
    → lengths_shown line ≡ lengths_with (lengths_shown lines.lengths) value
    → lines_shown lines ≡ named_lines fields
    → lines_shown (record lines { lengths = line }) ≡ named_lines (fields ++ (name, value) ∷ [])
with_length lines fields name value line same next is =
    named_by_parts (record lines { lengths = line }) (fields ++ (name, value) ∷ [])
    (host_is lines fields is
    ∙ sym (host_lines-other fields name value (apart name content_length_name host_name same refl)))
    (connection_is lines fields is ∙ sym
    (connection_lines-other fields name value (apart name content_length_name connection_name same refl)))
    (codings_are lines fields is ∙ sym
    (coding_lines-other fields name value (apart name content_length_name transfer_encoding_name same refl)))
    (next ∙ ap (λ (l : Lengths). lengths_with l value) (lengths_are lines fields is)
    ∙ sym (length_lines-same fields name value same))
    (expect_is lines fields is
    ∙ sym (expect_lines-other fields name value (apart name content_length_name expect_name same refl)))

pub with_expect : (lines : NamedLines) (fields : List (List ℕ × List ℕ))
    (name value : List ℕ) (line : ExpectLines)
    → is_name name expect_name ≡ true
    → line ≡ expect_with lines.expect value → lines_shown lines ≡ named_lines fields
    → lines_shown (record lines { expect = line }) ≡ named_lines (fields ++ (name, value) ∷ [])
with_expect lines fields name value line same next is =
    named_by_parts (record lines { expect = line }) (fields ++ (name, value) ∷ [])
    (host_is lines fields is
    ∙ sym (host_lines-other fields name value (apart name expect_name host_name same refl)))
    (connection_is lines fields is
    ∙ sym (connection_lines-other fields name value (apart name expect_name connection_name same refl)))
    (codings_are lines fields is
    ∙ sym (coding_lines-other fields name value (apart name expect_name transfer_encoding_name same refl)))
    (lengths_are lines fields is
    ∙ sym (length_lines-other fields name value (apart name expect_name content_length_name same refl)))
    (next ∙ ap (λ (l : ExpectLines). expect_with l value) (expect_is lines fields is)
    ∙ sym (expect_lines-same fields name value same))

pub with_none : (lines : NamedLines) (fields : List (List ℕ × List ℕ)) (name value : List ℕ) → IsOther name
    → lines_shown lines ≡ named_lines fields → lines_shown lines ≡ named_lines (fields ++ (name, value) ∷ [])
with_none lines fields name value none is =
    named_by_parts lines (fields ++ (name, value) ∷ [])
    (host_is lines fields is ∙ sym (host_lines-other fields name value none.host))
    (connection_is lines fields is ∙ sym (connection_lines-other fields name value none.connection))
    (codings_are lines fields is ∙ sym (coding_lines-other fields name value none.codings))
    (lengths_are lines fields is ∙ sym (length_lines-other fields name value none.lengths))
    (expect_is lines fields is ∙ sym (expect_lines-other fields name value none.expect))
