-- One more field, name by name.
use Rattle.std.proofs.Common.{◌≡◌, ℕ, Bool, true, false, cond, ◌||◌, ◌==◌, List, [], ◌∷◌, ◌++◌, map, refl, ap}
use Rattle.std.proofs.Common.{◌∙◌, append-nil}
use Rattle.std.specs.List.{list_any, filter, flat_map, slice_split}
use Rattle.std.specs.Str.{str_eq_ignore_ascii_case}
use Rattle.std.proofs.lemmas.List.{map-append}
use Rattle.std.proofs.lemmas.List.Elements.{filter-append}
use Rattle.std.proofs.lemmas.List.Folds.{list_any-append}
use Rattle.std.proofs.lemmas.List.Concat.{flat_map-append}
use Rattle.httparse.specs.Grammar.{trim_ows}
use Rattle.warp_request.specs.Fields.{values_of, members_in, members_of, has_member, has_word}

values_if : (name : List ℕ) (f : List ℕ × List ℕ) (t : Bool) → str_eq_ignore_ascii_case f.0 name ≡ t
    → map (λ (g : List ℕ × List ℕ). g.1)
    (filter (λ (g : List ℕ × List ℕ). str_eq_ignore_ascii_case g.0 name) (f ∷ [])) ≡ cond t (f.1 ∷ []) []
values_if name f true same = rw same refl
values_if name f false other = rw other refl

-- the values of a name, with one more field
pub values_of-push : (name : List ℕ) (fields : List (List ℕ × List ℕ)) (f : List ℕ × List ℕ)
    → values_of name (fields ++ f ∷ []) ≡ values_of name fields
    ++ cond (str_eq_ignore_ascii_case f.0 name) (f.1 ∷ []) []
unfolding values_of
values_of-push name fields f =
    ap (λ (l : List (List ℕ × List ℕ)). map (λ (g : List ℕ × List ℕ). g.1) l)
    (filter-append (λ (g : List ℕ × List ℕ). str_eq_ignore_ascii_case g.0 name) fields (f ∷ []))
    ∙ map-append (λ (g : List ℕ × List ℕ). g.1)
    (filter (λ (g : List ℕ × List ℕ). str_eq_ignore_ascii_case g.0 name) fields)
    (filter (λ (g : List ℕ × List ℕ). str_eq_ignore_ascii_case g.0 name) (f ∷ []))
    ∙ ap (λ (l : List (List ℕ)). map (λ (g : List ℕ × List ℕ). g.1)
    (filter (λ (g : List ℕ × List ℕ). str_eq_ignore_ascii_case g.0 name) fields) ++ l)
    (values_if name f (str_eq_ignore_ascii_case f.0 name) refl)

-- a further field of another name
pub values_of-other : (name : List ℕ) (fields : List (List ℕ × List ℕ)) (f : List ℕ × List ℕ)
    → str_eq_ignore_ascii_case f.0 name ≡ false
    → values_of name (fields ++ f ∷ []) ≡ values_of name fields
values_of-other name fields f other =
    values_of-push name fields f ∙ rw other (append-nil (values_of name fields))

-- a further field of this name
pub values_of-same : (name : List ℕ) (fields : List (List ℕ × List ℕ)) (f : List ℕ × List ℕ)
    → str_eq_ignore_ascii_case f.0 name ≡ true
    → values_of name (fields ++ f ∷ []) ≡ values_of name fields ++ f.1 ∷ []
values_of-same name fields f same = values_of-push name fields f ∙ rw same refl

-- one more line of a list
pub has_member-push : (word : List ℕ) (values : List (List ℕ)) (value : List ℕ)
    → has_member word (values ++ value ∷ []) ≡ (has_member word values || has_word word value)
unfolding has_member members_of has_word
has_member-push word values value =
    let test : List ℕ → Bool = λ (m : List ℕ). str_eq_ignore_ascii_case m word in
    ap (λ (l : List (List ℕ)). list_any test l) (flat_map-append members_in values (value ∷ []))
    ∙ list_any-append test (flat_map members_in values) (flat_map members_in (value ∷ []))
    ∙ ap (λ (l : List (List ℕ)). list_any test (flat_map members_in values) || list_any test l)
    (append-nil (members_in value))

any-map : {A B : Type 0} (test : B → Bool) (f : A → B) (xs : List A)
    → list_any test (map f xs) ≡ list_any (λ x. test (f x)) xs
any-map test f [] = refl
any-map test f (x ∷ xs) = ap (λ b. test (f x) || b) (any-map test f xs)

-- a word among the parts of a value
pub has_word_by_parts : (word value : List ℕ)
    → has_word word value ≡ list_any (λ part. str_eq_ignore_ascii_case (trim_ows part) word)
    (slice_split (λ b. b == 44) value)
unfolding has_word
has_word_by_parts word value =
    any-map (λ (m : List ℕ). str_eq_ignore_ascii_case m word) trim_ows (slice_split (λ b. b == 44) value)
