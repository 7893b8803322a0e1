-- What is known of the verdict on an input.
use Rattle.std.proofs.Common.{◌≡◌, ◌≢◌, ℕ, ◌<◌, ◌≤◌, List, [], length, subst}
use Rattle.warp_request.specs.Laws.{TellsOf}
use Rattle.warp_request.specs.Lines.{skip_empty}
use Rattle.warp_request.specs.Next.{next_of}
use Rattle.warp_request.specs.Verdict.{Verdict, more, asked, Asked}
use Rattle.warp_request.specs.NextLaws.{next_tells}

pub tells_of : (s : List ℕ) (v : Verdict) → next_of s ≡ v → TellsOf s v
tells_of s v is = subst (λ (w : Verdict). TellsOf s w) is (next_tells s)

-- more is waited for only where there is room for it
pub short_of : (s : List ℕ) → next_of s ≡ more → length s < 8192
short_of s is = tells_of s more is

-- and as many as there are
pub within_of : (s : List ℕ) (a : Asked) → next_of s ≡ asked a → a.len ≤ length s
within_of s a is = let tells = tells_of s (asked a) is in tells.within

-- a head has bytes besides empty lines
pub asked_some : (s : List ℕ) (a : Asked) → next_of s ≡ asked a → skip_empty s ≢ []
asked_some s a is = let tells = tells_of s (asked a) is in tells.begun
