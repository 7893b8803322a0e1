-- A segment without `%` is decoded to itself.
use Rattle.std.proofs.Common.{◌≡◌, ℕ, false, ◌==◌, List, [], ◌∷◌, refl, ap}
use Rattle.std.specs.List.{list_any}
use Rattle.std.proofs.lemmas.Bool.{or_parts}
use Rattle.percent_encoding.specs.Percent.{percent_decode}

pub plain : (s : List ℕ) → list_any (λ b. b == 37) s ≡ false → percent_decode s ≡ s
unfolding percent_decode
plain [] none = refl
plain (b ∷ []) none = refl
plain (b ∷ c ∷ []) none = refl
plain (b ∷ high ∷ low ∷ rest) none =
    let parts = or_parts (b == 37) (list_any (λ v. v == 37) (high ∷ low ∷ rest)) none in
    rw parts.0 (ap (λ (t : List ℕ). b ∷ t) (plain (high ∷ low ∷ rest) parts.1))
