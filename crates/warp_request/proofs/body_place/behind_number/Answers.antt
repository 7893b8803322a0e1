use Rattle.std.proofs.Common.{◌∙◌, sym, arith}
use Rattle.warp_request.proofs.ChunkSizeLemmas.{number_extension, number_none, number_refused, number_return}
use Rattle.warp_request.proofs.body_place.behind_number.Goals as goal

pub returns-then-count-eq0 : goal.returns-then-count-eq0
returns-then-count-eq0 c sum framing fed =
    number_none framing fed sum c.args.count c.args.number c.args.byte c.requires c.if-count-eq0.true

pub returns-then-byte-eq-CARRIAGE_RETURN : goal.returns-then-byte-eq-CARRIAGE_RETURN
returns-then-byte-eq-CARRIAGE_RETURN c sum framing fed =
    number_return framing fed sum c.args.count c.args.number c.args.byte c.requires
    (omega (arith, c.if-count-eq0.false)) c.if-byte-eq-CARRIAGE_RETURN.true

pub returns-then-is_extension_start : goal.returns-then-is_extension_start
returns-then-is_extension_start c sum framing fed =
    number_extension framing fed sum c.args.count c.args.number c.args.byte c.requires
    (omega (arith, c.if-count-eq0.false))
    (sym c.is_extension_start.ensures ∙ c.if-is_extension_start.true)

pub returns : goal.returns
returns c sum framing fed =
    number_refused framing fed sum c.args.count c.args.number c.args.byte c.requires
    (omega (arith, c.if-count-eq0.false)) c.if-byte-eq-CARRIAGE_RETURN.false
    (sym c.is_extension_start.ensures ∙ c.if-is_extension_start.false)
