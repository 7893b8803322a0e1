use Rattle.warp_request.proofs.TrailerLemmas.{trailers_break, trailers_end, trailers_full, trailers_more}
use Rattle.warp_request.proofs.body_place.behind_trailer_byte.Goals as goal

pub returns-in-Ends : goal.returns-in-Ends
returns-in-Ends c sum framing fed =
    trailers_end framing fed sum c.args.room c.args.line c.args.byte c.in-Ends.ensures

pub returns-in-Breaks : goal.returns-in-Breaks
returns-in-Breaks c sum framing fed =
    trailers_break framing fed sum c.args.room c.args.line c.args.byte c.in-Breaks.ensures

pub returns-then-room-le1 : goal.returns-then-room-le1
returns-then-room-le1 c sum framing fed =
    trailers_full framing fed sum c.args.room c.args.line c.in-Goes.line c.args.byte
    c.if-room-le1.true c.in-Goes.ensures

pub returns-else-room-le1 : goal.returns-else-room-le1
returns-else-room-le1 c sum framing fed =
    trailers_more framing fed sum c.args.room c.args.line c.in-Goes.line c.args.byte
    c.if-room-le1.false c.in-Goes.ensures
