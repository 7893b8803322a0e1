use Rattle.warp_request.proofs.ContentLemmas.{chunk_refused, chunk_return}
use Rattle.warp_request.proofs.body_place.behind_chunk.Goals as goal

pub returns-then-byte-eq-CARRIAGE_RETURN : goal.returns-then-byte-eq-CARRIAGE_RETURN
returns-then-byte-eq-CARRIAGE_RETURN c sum framing fed =
    chunk_return framing fed sum c.args.byte c.if-byte-eq-CARRIAGE_RETURN.true

pub returns-else-byte-eq-CARRIAGE_RETURN : goal.returns-else-byte-eq-CARRIAGE_RETURN
returns-else-byte-eq-CARRIAGE_RETURN c sum framing fed =
    chunk_refused framing fed sum c.args.byte c.if-byte-eq-CARRIAGE_RETURN.false
