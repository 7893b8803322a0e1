use Rattle.std.proofs.Common.{refl}
use Rattle.warp_request.proofs.ChunkedLemmas.{first_line}
use Rattle.warp_request.proofs.body_reader.BodyReader.new.Goals as goal

pub returns-in-Chunked : goal.returns-in-Chunked
returns-in-Chunked c = (c.in-Chunked.is, first_line 0 refl)
