use Rattle.std.proofs.Common.{◌≡◌, ◌≤◌, ◌∙◌, ap, sym, arith, length, take, length-take, ℕ, List, Some, None}
use Rattle.std.proofs.lemmas.List.{length-map}
use Rattle.std.specs.List.{list_all}
use Rattle.httparse.specs.Spans.{header_bytes}
use Rattle.httparse.specs.declared.spans.HeaderSpan.{HeaderSpan}
use Rattle.httparse.specs.declared.spans.RequestSpans.{RequestSpans}
use Rattle.warp_request.specs.LimitsAndWords.{field_limit, connection_name, expect_name}
use Rattle.warp_request.specs.Content.{waits_for_interim}
use Rattle.warp_request.specs.Fields.{values_of, stays_open}
use Rattle.warp_request.specs.Target.{is_visible}
use Rattle.warp_request.specs.Shown.{parts_shown}
use Rattle.warp_request.proofs.CheckLemmas.{too_many_fields, hidden_target, wrong_form, by_fields}
use Rattle.warp_request.proofs.CheckLemmas.{shows_asked}
use Rattle.warp_request.proofs.FramingLemmas.{fault_of, framing_is}
use Rattle.warp_request.proofs.NamedLemmas.{connection_is, expect_is}
use Rattle.warp_request.proofs.checks.check_head.Goals as goal

-- the spans show no more fields than the head has
few : (bytes : List ℕ) (spans : List HeaderSpan) (head : RequestSpans) → head.headers ≤ field_limit
    → length (parts_shown bytes spans head).fields ≤ field_limit
few bytes spans head small =
    omega (arith, length-map (take head.headers spans) (header_bytes bytes), length-take head.headers spans)

pub returns-then-head-gt-FIELD_LIMIT-clause-is : goal.returns-then-head-gt-FIELD_LIMIT-clause-is
returns-then-head-gt-FIELD_LIMIT-clause-is c =
    sym (too_many_fields (parts_shown c.args.bytes.now c.args.spans.now c.args.head)
    (omega (
      arith,
      length-map (take c.args.head.headers c.args.spans.now) (header_bytes c.args.bytes.now),
      length-take c.args.head.headers c.args.spans.now,
      c.requires.section.count_fits,
    )))

pub returns-then-not-is_visible-clause-is : goal.returns-then-not-is_visible-clause-is
returns-then-not-is_visible-clause-is c =
    sym (hidden_target (parts_shown c.args.bytes.now c.args.spans.now c.args.head)
    (few c.args.bytes.now c.args.spans.now c.args.head c.if-head-gt-FIELD_LIMIT.false)
    (ap (list_all is_visible) (sym c.of-target.ensures) ∙ sym c.is_visible.ensures
    ∙ c.if-not-is_visible.true))

pub returns-then-not-is_target_form-clause-is : goal.returns-then-not-is_target_form-clause-is
returns-then-not-is_target_form-clause-is c =
    sym (wrong_form (parts_shown c.args.bytes.now c.args.spans.now c.args.head)
    (few c.args.bytes.now c.args.spans.now c.args.head c.if-head-gt-FIELD_LIMIT.false)
    (ap (list_all is_visible) (sym c.of-target.ensures) ∙ sym c.is_visible.ensures
    ∙ c.if-not-is_visible.false)
    (rw (sym c.of.ensures, sym c.of-target.ensures)
    (sym c.is_target_form.ensures ∙ c.if-not-is_target_form.true)))

pub returns-in-Err-clause-is : goal.returns-in-Err-clause-is
returns-in-Err-clause-is c =
    let parts = parts_shown c.args.bytes.now c.args.spans.now c.args.head in
    let says = sym (c.framing.ensures parts.fields c.read-lines.ensures) ∙ c.in-Err.is in
    sym (by_fields parts (Some c.in-Err.code)
    (few c.args.bytes.now c.args.spans.now c.args.head c.if-head-gt-FIELD_LIMIT.false)
    (ap (list_all is_visible) (sym c.of-target.ensures) ∙ sym c.is_visible.ensures
    ∙ c.if-not-is_visible.false)
    (rw (sym c.of.ensures, sym c.of-target.ensures)
    (sym c.is_target_form.ensures ∙ c.if-not-is_target_form.false))
    (fault_of c.args.head.version parts.fields c.in-Err.code says))

pub returns-in-Ok-clause-is : goal.returns-in-Ok-clause-is
returns-in-Ok-clause-is c =
    let parts = parts_shown c.args.bytes.now c.args.spans.now c.args.head in
    let lines = c.read-lines.result in
    let framing = c.in-Ok.framing in
    let says = framing_is c.args.head.version parts.fields framing
    (sym (c.framing.ensures parts.fields c.read-lines.ensures) ∙ c.in-Ok.is) in
    let keeps : c.stays_open.result ≡ stays_open parts.minor (values_of connection_name parts.fields) =
    c.stays_open.ensures (values_of connection_name parts.fields)
    (connection_is lines parts.fields c.read-lines.ensures) in
    let interim : c.waits.result
    ≡ waits_for_interim parts.minor (values_of expect_name parts.fields) framing =
    c.waits.ensures (values_of expect_name parts.fields)
    (expect_is lines parts.fields c.read-lines.ensures) in
    shows_asked parts framing c.stays_open.result c.waits.result says.1 keeps interim
    ∙ sym
    (by_fields parts None (few c.args.bytes.now c.args.spans.now c.args.head c.if-head-gt-FIELD_LIMIT.false)
    (ap (list_all is_visible) (sym c.of-target.ensures) ∙ sym c.is_visible.ensures
    ∙ c.if-not-is_visible.false)
    (rw (sym c.of.ensures, sym c.of-target.ensures)
    (sym c.is_target_form.ensures ∙ c.if-not-is_target_form.false)) says.0)
