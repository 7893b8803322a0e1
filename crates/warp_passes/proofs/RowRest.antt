-- What rows hold beside their passes, where two of them told one another.
use Rattle.std.proofs.Common.{◌≡◌, ℕ, List, ◌∷◌, map, set, sym, ap, ◌∙◌}
use Rattle.std.specs.Prelude.{slice_get, Some}
use Rattle.level.specs.Meanings.{PassMeaning, HoldAllSeats, KeepOwn}
use Rattle.level.specs.ListLaws.{set_again, get_map}
use Rattle.std.proofs.lemmas.List.{map-set}

module _ {P B : Type 0} (rest : P → B) where
  -- it is what it was, where it is so of the first and of one of the others
  pub rest_both : (f f' : P) (ps : List P) (i : ℕ) (p p' : P) → slice_get ps i ≡ Some p
      → rest f' ≡ rest f → rest p' ≡ rest p
      → map rest (f' ∷ set ps i p') ≡ map rest (f ∷ ps)
  rest_both f f' ps i p p' at first other =
      let others : map rest (set ps i p') ≡ map rest ps = map-set rest ps i p'
      ∙ (ap (λ x. set (map rest ps) i x) other
      ∙ set_again (map rest ps) i (rest p) (get_map rest ps i p at)) in
      λ k. first k ∷ others k

  -- it stays over both loops
  pub rest_stays : (ps qs rs ts : List P) → ps ≡ qs → map rest rs ≡ map rest qs
      → map rest ts ≡ map rest rs → map rest ts ≡ map rest ps
  rest_stays ps qs rs ts same first second = second ∙ (first ∙ ap (map rest) (sym same))

-- passes that kept their own hold each seat once as before
pub still_seats : {P O : Type 0} (m : PassMeaning P O) (ps qs : List P) → KeepOwn m ps qs
    → HoldAllSeats m ps → HoldAllSeats m qs
still_seats m ps qs keeps once k n = (keeps k).counts n ∙ once k n
