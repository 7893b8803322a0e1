-- To be believed: what the bytes of a connection begin with, head and body together, and
-- what is answered before the body.
use Rattle.std.specs.Prelude.{ℕ, ◌+◌, List, [], drop, if◌then◌else◌}
use Rattle.warp_request.specs.Body.{BodyVerdict, body_of}
use Rattle.warp_request.specs.Body as body
use Rattle.warp_request.specs.Next.{next_of}
use Rattle.warp_request.specs.Verdict.{Verdict, Asked}
use Rattle.warp_request.specs.Verdict as head
use Rattle.warp_response.specs.Text.{interim_text}

-- a request that isn't whole yet, one that is refused with a status, or a whole one of this many bytes
pub data FirstRequest : Type 0 where
  unfinished : FirstRequest
  refused : ℕ → FirstRequest
  whole : Asked → ℕ → FirstRequest

-- by the verdict on the body after a head
abbrev pub first_by_body : Asked → BodyVerdict → FirstRequest
first_by_body a body.more = unfinished
first_by_body a (body.refused code) = refused code
first_by_body a (body.whole n) = whole a (a.len + n)

-- by the verdict on the head
abbrev pub first_by_head : List ℕ → Verdict → FirstRequest
first_by_head s head.more = unfinished
first_by_head s (head.refused code) = refused code
first_by_head s (head.asked a) = first_by_body a (body_of a.framing (drop a.len s))

-- what the bytes s begin with
unfoldable pub first_request : List ℕ → FirstRequest
first_request s = first_by_head s (next_of s)

abbrev pub interim_by : Verdict → List ℕ
interim_by head.more = []
interim_by (head.refused code) = []
interim_by (head.asked a) = if a.interim then interim_text else []

-- what is answered as soon as the head at the front of s is whole, whether or not its body
-- came (RFC 9110, section 10.1.1)
unfoldable pub interim_of : List ℕ → List ℕ
interim_of s = interim_by (next_of s)
