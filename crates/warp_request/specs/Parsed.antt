-- Inner: what the parser says of a window.
use Rattle.std.specs.Prelude.{◌≡◌, ℕ, List}
use Rattle.httparse.specs.Grammar.{RequestHead, ReadsRequest, HasNoRequest, MayBecomeRequest, NeverHasRequest}
use Rattle.warp_request.specs.declared.heads.Parsed.{Parsed}
use Rattle.warp_request.specs.declared.heads.Parsed.TheVariants.{Whole, Cut, Wrong}
use Rattle.warp_request.specs.Checks.{parts_of, checked}
use Rattle.warp_request.specs.Shown.{shown, LiesIn}

-- there is a head at the front with this verdict, there may be one, or there never is
abbrev pub ParserAnswered : List ℕ → Parsed → Type 0
ParserAnswered w (Whole verdict) =
    ((h : RequestHead) × (rest : List ℕ) × ReadsRequest w h rest × (shown w verdict ≡ checked (parts_of h)))
    × LiesIn w verdict
ParserAnswered w Cut = HasNoRequest w × MayBecomeRequest w
ParserAnswered w Wrong = NeverHasRequest w
