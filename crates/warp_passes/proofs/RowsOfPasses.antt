-- Rows of passes.
use Rattle.std.proofs.Common.{◌≡◌, List, [], ◌∷◌, map, All, sym, ap, ◌∙◌, subst, arith}
use Rattle.std.proofs.lemmas.List.Elements.{All-cons, All-head, All-tail}
use Rattle.level.specs.ListLaws.{map_map}

module _ {A B : Type 0} (f : A → B) where
  of_map : (P : B → Type 0) (xs : List A) → All P (map f xs) → All (λ x. P (f x)) xs
  of_map P [] all = λ k d h. absurd (omega arith)
  of_map P (x ∷ xs) all =
      All-cons (λ y. P (f y)) x xs (All-head P (f x) (map f xs) all)
      (of_map P xs (All-tail P (f x) (map f xs) all))

  -- what holds of each pass holds of the pass of each row
  pub each_row : (P : B → Type 0) (xs : List A) (ys : List B) → map f xs ≡ ys → All P ys
      → All (λ x. P (f x)) xs
  each_row P xs ys same all = of_map P xs (subst (All P) (sym same) all)

  -- rows know what their passes know
  pub known_rows : {C : Type 0} (known : B → C) (xs : List A) (ys : List B) → map f xs ≡ ys
      → map (λ x. known (f x)) xs ≡ map known ys
  known_rows known xs ys same = map_map known f xs ∙ ap (map known) same
