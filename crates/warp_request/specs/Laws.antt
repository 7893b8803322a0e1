-- To be believed: what a verdict tells of the bytes that it was given on.
use Rattle.std.specs.Prelude.{◌≡◌, ◌≢◌, ℕ, ◌<◌, ◌≤◌, ◌==◌, true, IsTrue, List, [], ◌∷◌, ◌++◌, length}
use Rattle.std.specs.List.{list_all, list_any}
use Rattle.warp_response.specs.Statuses.{bad_request, content_too_large, uri_too_long, expectation_failed}
use Rattle.warp_response.specs.Statuses.{header_fields_too_large, not_implemented}
use Rattle.warp_request.specs.Lines.{skip_empty}
use Rattle.httparse.specs.Grammar.{IsToken}
use Rattle.warp_request.specs.LimitsAndWords.{head_limit}
use Rattle.warp_request.specs.Next.{next_of}
use Rattle.warp_request.specs.Target.{is_visible, is_target_form}
use Rattle.warp_request.specs.Verdict.{Verdict, more, refused, asked, Asked}

-- the statuses with which heads and bodies are refused
abbrev pub refusal_statuses : List ℕ
refusal_statuses =
    bad_request ∷ content_too_large ∷ uri_too_long ∷ expectation_failed ∷ header_fields_too_large
    ∷ not_implemented ∷ []

-- a status is one of them
unfoldable pub IsRefusalStatus : ℕ → Type 0
IsRefusalStatus code = IsTrue (list_any (λ status. status == code) refusal_statuses)

-- the head is in the bytes and within the limit, its request line is what it has to be, and the
-- bytes are more than empty lines
pub record IsAskedFrom (s : List ℕ) (a : Asked) : Type 0 where
  pub some : 1 ≤ a.len
  pub within : a.len ≤ length s
  pub limit : a.len ≤ head_limit
  pub method : IsToken a.method
  pub visible : list_all is_visible a.target ≡ true
  pub form : is_target_form a.method a.target ≡ true
  pub minor : a.minor ≤ 1
  pub begun : skip_empty s ≢ []

-- more is waited for only below the limit, a refusal has one of its statuses, and what
-- is asked is asked by the bytes
abbrev pub TellsOf : List ℕ → Verdict → Type 0
TellsOf s more = length s < head_limit
TellsOf s (refused code) = IsRefusalStatus code
TellsOf s (asked a) = IsAskedFrom s a

-- what is settled stays, whatever bytes follow
abbrev pub StaysSettled : List ℕ → Type 0
StaysSettled s = (t : List ℕ) (v : Verdict) → next_of s ≡ v → v ≢ more → next_of (s ++ t) ≡ v
