use Rattle.warp_request.proofs.ContentLemmas.{chunk_feed, chunk_no_feed}
use Rattle.warp_request.proofs.body_place.behind_chunk_return.Goals as goal

pub returns-then-byte-eq-LINE_FEED : goal.returns-then-byte-eq-LINE_FEED
returns-then-byte-eq-LINE_FEED c sum framing fed =
    chunk_feed framing fed sum c.args.byte c.if-byte-eq-LINE_FEED.true

pub returns-else-byte-eq-LINE_FEED : goal.returns-else-byte-eq-LINE_FEED
returns-else-byte-eq-LINE_FEED c sum framing fed =
    chunk_no_feed framing fed sum c.args.byte c.if-byte-eq-LINE_FEED.false
