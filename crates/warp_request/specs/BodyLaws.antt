-- To be believed: what holds of every body.
use Rattle.std.specs.Prelude.{◌≡◌, ◌≢◌, ℕ, ◌≤◌, List, ◌++◌, length}
use Rattle.warp_request.specs.declared.verdict.Framing.{Framing}
use Rattle.warp_request.specs.Body.{BodyVerdict, more, refused, whole, body_of}
use Rattle.warp_request.specs.Laws.{IsRefusalStatus}

-- a body that is whole or refused stays so, whatever bytes follow
abbrev pub BodyStaysSettled : Framing → List ℕ → Type 0
BodyStaysSettled framing s =
    (t : List ℕ) (v : BodyVerdict) → body_of framing s ≡ v → v ≢ more → body_of framing (s ++ t) ≡ v

-- a body that is whole is in its bytes
abbrev pub BodyLiesIn : Framing → List ℕ → Type 0
BodyLiesIn framing s = (n : ℕ) → body_of framing s ≡ whole n → n ≤ length s

-- a body that is refused is so with one of the statuses
abbrev pub BodyRefusesBy : Framing → List ℕ → Type 0
BodyRefusesBy framing s = (code : ℕ) → body_of framing s ≡ refused code → IsRefusalStatus code
