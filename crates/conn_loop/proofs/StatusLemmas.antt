-- Each refusal has a status that can be sent.
use Rattle.std.proofs.Common.{◌≡◌, ℕ, List}
use Rattle.warp_request.specs.declared.verdict.Framing.{Framing}
use Rattle.warp_request.specs.Body.{body_of}
use Rattle.warp_request.specs.Body as body
use Rattle.warp_request.specs.Laws.{IsRefusalStatus}
use Rattle.warp_request.specs.Next.{next_of}
use Rattle.warp_request.specs.Verdict.{refused}
use Rattle.warp_request.specs.StatusLaws.{refusal_phrase, refusal_least, body_status as body_refuses}
use Rattle.conn_loop.specs.Phases.{IsRefusal}
use Rattle.conn_loop.proofs.VerdictLemmas.{tells_of}

can_refuse : (code : ℕ) → IsRefusalStatus code → IsRefusal code
can_refuse code is = (refusal_phrase code is, refusal_least code is)

pub status_of : (s : List ℕ) (code : ℕ) → next_of s ≡ refused code → IsRefusal code
status_of s code is = can_refuse code (tells_of s (refused code) is)

pub body_status : (framing : Framing) (s : List ℕ) (code : ℕ) → body_of framing s ≡ body.refused code
    → IsRefusal code
body_status framing s code is = can_refuse code (body_refuses framing s code is)
