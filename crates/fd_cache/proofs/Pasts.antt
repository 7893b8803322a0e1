-- The deeds of a history, newest first.
use Rattle.std.proofs.Common.{◌≡◌, ℕ, List, [], ◌∷◌, ◌++◌, ap, ◌∙◌}
use Rattle.std.specs.Prelude.{map}
use Rattle.std.proofs.lemmas.List.{map-append, reverse-append}
use mathlib.Core.List.{reverse}
use Rattle.fd_cache.specs.Represents.{past_of}

-- one more deed of a history is the newest
pub past_of_one_more : {D : Type 0} (h : List (ℕ × D)) (seat : ℕ) (d : D)
    → past_of (h ++ (seat, d) ∷ []) ≡ d ∷ past_of h
past_of_one_more h seat d =
    ap reverse (map-append (λ e. e.1) h ((seat, d) ∷ [])) ∙ reverse-append (map (λ e. e.1) h) (d ∷ [])
