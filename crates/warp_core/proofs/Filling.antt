-- Lists that are filled from what an iterator has left.
use Rattle.std.proofs.Common.{◌≡◌, ◌+◌, List, [], ◌∷◌, ◌++◌, map, length, sym, ap, ◌∙◌, arith, append-nil}
use Rattle.std.proofs.Common.{append_assoc, length-append}
use Rattle.std.proofs.lemmas.List.{length-map, map-append}

pub length_push : {A : Type 0} (xs ys : List A) (x : A) → ys ≡ xs ++ x ∷ [] → length ys ≡ length xs + 1
length_push xs ys x is =
    let a = ap length is in
    let b = length-append xs (x ∷ []) in omega arith

module _ {A B : Type 0} (f : A → B) where
  -- one item more was taken, and its part put after the others
  pub moved_on : (xs ys : List B) (item : A) (its left : List A) (all : List B) → its ≡ item ∷ left
      → ys ≡ xs ++ f item ∷ [] → xs ++ map f its ≡ all → ys ++ map f left ≡ all
  moved_on xs ys item its left all next push was =
      ap (λ (l : List B). l ++ map f left) push
      ∙ (append_assoc xs (f item ∷ []) (map f left) ∙ (ap (λ (l : List A). xs ++ map f l) (sym next) ∙ was))

  -- as many were put as there were
  pub all_moved : (xs : List B) (its all : List A) → xs ++ map f its ≡ map f all
      → length xs ≡ length all → xs ≡ map f all
  all_moved xs [] all was many = sym (append-nil xs) ∙ was
  all_moved xs (i ∷ its) all was many =
      let a = ap length was in
      let b = length-append xs (map f (i ∷ its)) in
      let c = length-map all f in
      absurd (omega arith)

module _ {A B C : Type 0} (f : A → C) (g : B → C) where
  -- the same of what is known of what was put
  pub told_on : (xs ys : List B) (x : B) (item : A) (its left : List A) (all : List C) → its ≡ item ∷ left
      → ys ≡ xs ++ x ∷ [] → g x ≡ f item → map g xs ++ map f its ≡ all → map g ys ++ map f left ≡ all
  told_on xs ys x item its left all next push same was =
      moved_on f (map g xs) (map g ys) item its left all next
      (ap (map g) push ∙ (map-append g xs (x ∷ []) ∙ ap (λ (c : C). map g xs ++ c ∷ []) same)) was

  pub all_told : (xs : List B) (its all : List A) → map g xs ++ map f its ≡ map f all
      → length xs ≡ length all → map g xs ≡ map f all
  all_told xs its all was many = all_moved f (map g xs) its all was (length-map xs g ∙ many)
