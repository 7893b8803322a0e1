-- To be believed: what can be said of the bytes after the last whole request.
use Rattle.std.specs.Prelude.{ℕ, Bool, List}
use Rattle.warp_request.specs.declared.verdict.Framing.{Framing}

-- what a head asks for: its parts as bytes, how many bytes it has, and what its fields decide
pub record Asked : Type 0 where
  pub method : List ℕ
  pub target : List ℕ
  pub minor : ℕ
  pub len : ℕ
  pub framing : Framing
  pub keeps : Bool
  pub interim : Bool

-- too little to say, a refusal with a status, or the head of a request
pub data Verdict : Type 0 where
  more : Verdict
  refused : ℕ → Verdict
  asked : Asked → Verdict
