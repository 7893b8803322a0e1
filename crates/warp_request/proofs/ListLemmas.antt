-- The list of several lines is that of one line with their values joined by commas.
use Rattle.std.proofs.Common.{◌≡◌, ℕ, ◌≤◌, Bool, true, false, cond, List, [], ◌∷◌, ◌++◌, length, map, refl}
use Rattle.std.proofs.Common.{sym, ap, ◌∙◌, append-nil, arith}
use Rattle.std.specs.Prelude.{◌==◌}
use Rattle.std.specs.List.{join_with_byte, onto_first, slice_split}
use Rattle.std.proofs.lemmas.List.{map-append}
use Rattle.std.proofs.lemmas.List.Splits.{length-slice_split}
use Rattle.httparse.specs.Grammar.{trim_ows}
use Rattle.warp_request.specs.Fields.{members_in, members_of}

-- the parts of a text, cut at commas
abbrev parts : List ℕ → List (List ℕ)
parts text = slice_split (λ b. b == 44) text

first_append : (x : ℕ) (ls ms : List (List ℕ)) → 1 ≤ length ls
    → onto_first x (ls ++ ms) ≡ onto_first x ls ++ ms
first_append x [] ms some = absurd (omega (arith, some))
first_append x (l ∷ ls) ms some = refl

parts_join : (a b : List ℕ) → parts (a ++ 44 ∷ b) ≡ parts a ++ parts b
parts_join [] b = refl
parts_join (x ∷ a) b = by (x == 44) (parts_join a b)
  where
    some : 1 ≤ length (parts a)
    some = let size = length-slice_split (λ b. b == 44) a in omega (arith, size)

    by : (comma : Bool) → parts (a ++ 44 ∷ b) ≡ parts a ++ parts b
        → cond comma ([] ∷ parts (a ++ 44 ∷ b)) (onto_first x (parts (a ++ 44 ∷ b)))
        ≡ cond comma ([] ∷ parts a) (onto_first x (parts a)) ++ parts b
    by true rest = ap (λ (l : List (List ℕ)). [] ∷ l) rest
    by false rest = ap (λ (l : List (List ℕ)). onto_first x l) rest ∙ first_append x (parts a) (parts b) some

-- the law
pub members_join : (value : List ℕ) (values : List (List ℕ))
    → members_in (join_with_byte 44 (value ∷ values)) ≡ members_of (value ∷ values)
unfolding members_of
members_join value [] = sym (append-nil (members_in value))
members_join value (other ∷ values) =
    ap (λ (l : List (List ℕ)). map trim_ows l) (parts_join value (join_with_byte 44 (other ∷ values)))
    ∙ map-append trim_ows (parts value) (parts (join_with_byte 44 (other ∷ values)))
    ∙ ap (λ (l : List (List ℕ)). members_in value ++ l) (members_join other values)
