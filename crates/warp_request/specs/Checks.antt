-- To be believed: the checks that a head has to pass, in their order.
use Rattle.std.specs.Prelude.{ℕ, Bool, not, ◌&&◌, ◌==◌, List, [], ◌∷◌, ◌++◌, length, map, if◌then◌else◌}
use Rattle.std.specs.Prelude.{nat_lt, Option, Some, None}
use Rattle.std.specs.List.{list_all}
use Rattle.httparse.specs.Grammar.{RequestHead, print_request}
use Rattle.httparse.specs.Spans.{name_and_value}
use Rattle.warp_request.specs.LimitsAndWords.{field_limit, body_limit, host_name, connection_name}
use Rattle.warp_request.specs.LimitsAndWords.{transfer_encoding_name, content_length_name, expect_name}
use Rattle.warp_response.specs.Statuses.{bad_request, content_too_large, expectation_failed}
use Rattle.warp_response.specs.Statuses.{header_fields_too_large, not_implemented}
use Rattle.warp_request.specs.declared.verdict.Framing.{Framing}
use Rattle.warp_request.specs.Content.{codings_of, ends_in_chunked, framing_of, has_other_coding}
use Rattle.warp_request.specs.Content.{is_expect_fault, is_length_fault, is_there, length_in}
use Rattle.warp_request.specs.Content.{waits_for_interim}
use Rattle.warp_request.specs.Fields.{members_of, values_of, is_host_fault, stays_open}
use Rattle.warp_request.specs.Target.{is_visible, is_target_form}
use Rattle.warp_request.specs.Verdict.{Verdict, refused, asked}

-- a head as its checks see it: each field is a name and a value
pub record Parts : Type 0 where
  pub method : List ℕ
  pub target : List ℕ
  pub minor : ℕ
  pub fields : List (List ℕ × List ℕ)
  pub len : ℕ

-- the parts of a head of the grammar
abbrev pub parts_of : RequestHead → Parts
parts_of h = record {
  method = h.method;
  target = h.target;
  minor = h.minor;
  fields = map name_and_value h.fields;
  len = length (print_request h);
}

-- the status of the first fault that is there
abbrev pub first_fault : List (Bool × ℕ) → Option ℕ
first_fault [] = None
first_fault (check ∷ checks) = if check.0 then Some check.1 else first_fault checks

-- the faults of the request line and of the number of fields
abbrev pub line_checks : Parts → List (Bool × ℕ) → List (Bool × ℕ)
line_checks p more_checks =
    (nat_lt field_limit (length p.fields), header_fields_too_large)
    ∷ (not (list_all is_visible p.target), bad_request)
    ∷ (not (is_target_form p.method p.target), bad_request)
    ∷ more_checks

-- the faults of the lines that delimit the content, by the values of Transfer-Encoding and Content-Length
abbrev pub framing_checks : ℕ → List (List ℕ) → List (List ℕ) → List (Bool × ℕ)
framing_checks minor codings lengths =
    (is_there codings && minor == 0, bad_request)
    ∷ (is_there codings && is_there lengths, bad_request)
    ∷ (is_there codings && not (ends_in_chunked (codings_of codings)), bad_request)
    ∷ (has_other_coding (codings_of codings), not_implemented)
    ∷ (is_length_fault (members_of lengths), bad_request)
    ∷ (nat_lt body_limit (length_in (members_of lengths)), content_too_large)
    ∷ []

-- the faults of the fields
abbrev pub field_checks : ℕ → List (List ℕ × List ℕ) → List (Bool × ℕ)
field_checks minor fields =
    (is_host_fault minor (values_of host_name fields), bad_request)
    ∷ (framing_checks minor (values_of transfer_encoding_name fields) (values_of content_length_name fields)
    ++ (is_expect_fault minor (values_of expect_name fields), expectation_failed) ∷ [])

-- all faults with their statuses, in order
abbrev pub checks : Parts → List (Bool × ℕ)
checks p = line_checks p (field_checks p.minor p.fields)

-- the framing that the fields say
abbrev pub framing_by : List (List ℕ × List ℕ) → Framing
framing_by fields =
    framing_of (values_of transfer_encoding_name fields) (values_of content_length_name fields)

-- the verdict on a head in which this fault was found
abbrev pub verdict_by : Option ℕ → Parts → Verdict
verdict_by (Some code) p = refused code
verdict_by None p = asked (record {
  method = p.method;
  target = p.target;
  minor = p.minor;
  len = p.len;
  framing = framing_by p.fields;
  keeps = stays_open p.minor (values_of connection_name p.fields);
  interim = waits_for_interim p.minor (values_of expect_name p.fields) (framing_by p.fields);
})

-- the verdict on a head
unfoldable pub checked : Parts → Verdict
checked p = verdict_by (first_fault (checks p)) p
