use Rattle.std.proofs.Common.{◌∙◌, sym}
use Rattle.warp_request.proofs.ExtensionLemmas.{extension_ends, extension_full, extension_more}
use Rattle.warp_request.proofs.ExtensionLemmas.{extension_refused}
use Rattle.warp_request.proofs.body_place.behind_extension.Goals as goal

pub returns-then-room-le1 : goal.returns-then-room-le1
returns-then-room-le1 c sum framing fed =
    extension_full framing fed sum c.args.room c.args.number c.args.byte c.if-room-le1.true

pub returns-then-byte-eq-CARRIAGE_RETURN : goal.returns-then-byte-eq-CARRIAGE_RETURN
returns-then-byte-eq-CARRIAGE_RETURN c sum framing fed =
    extension_ends framing fed sum c.args.room c.args.number c.args.byte c.if-room-le1.false
    c.if-byte-eq-CARRIAGE_RETURN.true

pub returns-then-is_extension_text : goal.returns-then-is_extension_text
returns-then-is_extension_text c sum framing fed =
    extension_more framing fed sum c.args.room c.args.number c.args.byte c.if-room-le1.false
    (sym c.is_extension_text.ensures ∙ c.if-is_extension_text.true)

pub returns : goal.returns
returns c sum framing fed =
    extension_refused framing fed sum c.args.room c.args.number c.args.byte
    (sym c.is_extension_text.ensures ∙ c.if-is_extension_text.false)
    c.if-byte-eq-CARRIAGE_RETURN.false
