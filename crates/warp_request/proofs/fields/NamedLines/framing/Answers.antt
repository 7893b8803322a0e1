use Rattle.std.proofs.Common.{◌≡◌, true, false, refl, sym, ◌∙◌}
use Rattle.std.specs.Prelude.{Ok, Err}
use Rattle.warp_request.specs.LimitsAndWords.{host_name, expect_name}
use Rattle.warp_request.specs.Content.{is_expect_fault}
use Rattle.warp_request.specs.Fields.{values_of}
use Rattle.warp_request.specs.NamedLines.{framing_said, lengths_shown}
use Rattle.warp_request.proofs.FramingLemmas.{fields_decide}
use Rattle.warp_request.proofs.NamedLemmas.{expect_is, host_is, said_is}
use Rattle.warp_request.proofs.fields.NamedLines.framing.Goals as goal

pub returns-then-is_fault : goal.returns-then-is_fault
returns-then-is_fault c fields is =
    sym
    (fields_decide c.args.minor fields true (is_expect_fault c.args.minor (values_of expect_name fields)) _
    (sym (c.is_fault.ensures (values_of host_name fields) (host_is c.args.self fields is))
    ∙ c.if-is_fault.true) refl refl)

pub returns-in-Err : goal.returns-in-Err
returns-in-Err c fields is =
    let said : Err c.in-Err.code
    ≡ framing_said c.args.minor c.args.self.codings (lengths_shown c.args.self.lengths) =
    sym c.in-Err.is ∙ c.framing.ensures in
    sym (fields_decide c.args.minor fields false (is_expect_fault c.args.minor (values_of expect_name fields))
    (Err c.in-Err.code)
    (sym (c.is_fault.ensures (values_of host_name fields) (host_is c.args.self fields is))
    ∙ c.if-is_fault.false) (said ∙ said_is c.args.minor c.args.self fields is) refl)

pub returns-in-Ok : goal.returns-in-Ok
returns-in-Ok c fields is =
    let said : Ok c.in-Ok.field-0
    ≡ framing_said c.args.minor c.args.self.codings (lengths_shown c.args.self.lengths) =
    sym c.in-Ok.is ∙ c.framing.ensures in
    sym (fields_decide c.args.minor fields false true (Ok c.in-Ok.field-0)
    (sym (c.is_fault.ensures (values_of host_name fields) (host_is c.args.self fields is))
    ∙ c.if-is_fault.false) (said ∙ said_is c.args.minor c.args.self fields is)
    (sym (c.is_fault-expects_other.ensures (values_of expect_name fields) (expect_is c.args.self fields is))
    ∙ c.if-expects_other.true))

pub returns-in-Ok-2 : goal.returns-in-Ok-2
returns-in-Ok-2 c fields is =
    let said : Ok c.in-Ok.field-0
    ≡ framing_said c.args.minor c.args.self.codings (lengths_shown c.args.self.lengths) =
    sym c.in-Ok.is ∙ c.framing.ensures in
    sym (fields_decide c.args.minor fields false false (Ok c.in-Ok.field-0)
    (sym (c.is_fault.ensures (values_of host_name fields) (host_is c.args.self fields is))
    ∙ c.if-is_fault.false) (said ∙ said_is c.args.minor c.args.self fields is)
    (sym (c.is_fault-expects_other.ensures (values_of expect_name fields) (expect_is c.args.self fields is))
    ∙ c.if-expects_other.false))
