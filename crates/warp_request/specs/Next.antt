-- To be believed: what follows the last whole request, the head of a request, a refusal,
-- or too little to say.
use Rattle.std.specs.Prelude.{ℕ, not, List, length, take, if◌then◌else◌, nat_lt}
use Rattle.warp_request.specs.LimitsAndWords.{head_limit}
use Rattle.warp_response.specs.Statuses.{bad_request, uri_too_long, header_fields_too_large}
use Rattle.warp_request.specs.Checks.{parts_of, checked}
use Rattle.warp_request.specs.Lines.{has_line, breaks_line_rule}
use Rattle.warp_request.specs.Beginning.{Beginning, whole, unfinished, invalid, beginning}
use Rattle.warp_request.specs.Verdict.{Verdict, more, refused}

-- the bytes in which a head has to end
abbrev pub window_of : List ℕ → List ℕ
window_of s = take head_limit s

-- more bytes are waited for as long as there is room for them
unfoldable pub waits : ℕ → List ℕ → Verdict
waits code s = if nat_lt (length s) head_limit then more else refused code

-- where a head is at the front, its checks decide, and where none can come any more, it is refused; asked
-- only once a line has ended, since only there the three cases exclude one another
unfoldable pub by_beginning : (s w : List ℕ) → Beginning w → Verdict
by_beginning s w (whole h rest x) = checked (parts_of h)
by_beginning s w (unfinished none may) = waits header_fields_too_large s
by_beginning s w (invalid never) = refused bad_request

-- what the bytes s begin with
unfoldable pub next_of : List ℕ → Verdict
next_of s =
    let w = window_of s in
    if not (has_line w) then waits uri_too_long s
    else (if breaks_line_rule w then refused bad_request else by_beginning s w (beginning w))
