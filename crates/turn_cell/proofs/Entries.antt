-- The entries of a history that belong to classes of seats, and what splits, joins and steps make of them.
use Rattle.std.proofs.Common.{◌≡◌, ◌≢◌, ℕ, ◌+◌, ◌*◌, ◌^◌, inl, inr, ⊎_elim, List, [], ◌∷◌, ◌++◌, true, false}
use Rattle.std.proofs.Common.{Bool, sym, refl, ap, ◌∙◌, arith}
use Rattle.std.specs.Prelude.{if◌then◌else◌, ◌||◌}
use Rattle.std.proofs.lemmas.Bool.{both_ways, false_from_ne_true, cond-false, cond-true}
use Rattle.std.proofs.lemmas.List.{append-nil}
use Rattle.std.proofs.Math.Nat.{mod-eq_of_lt}
use Rattle.std.proofs.lemmas.Nat.{pow-add}
use Rattle.turn_cell.specs.Weights.{weigh, one_if}
use Rattle.turn_cell.specs.Classes.{InClass, Within, within, OnlyFirsts, AreClasses, Apart, first_of, halved}
use Rattle.turn_cell.specs.Classes.{other_half}
use Rattle.turn_cell.specs.History.{Log, entries_in, Foreign, Ahead, AtFirsts}
use Rattle.turn_cell.specs.ClassLaws.{left_within, other_out, within_is, is_within, within-append}
use Rattle.turn_cell.specs.Laws.{first_within, entries_in-append, entries_in_ahead, weigh_entries}

same_test : (a b : Bool) → (a ≡ true → b ≡ true) → (b ≡ true → a ≡ true) → a ≡ b
same_test true b f g = sym (f refl)
same_test false true f g = g refl
same_test false false f g = refl

-- where n is a first, and in the whole, it is in the half that keeps the first
kept_half : (n : ℕ) (cs : List (ℕ × ℕ)) → AreClasses cs → OnlyFirsts n cs → Within n cs → Within n (halved cs)
kept_half n [] are o w = w
kept_half n (c ∷ cs) are o w =
    ⊎_elim (λ (h : InClass n c). inl (let is : n ≡ c.0 = o.0 h in
    let t = pow-add 2 c.1 1 in
    let a = are.0 in
    let p : 2 ^ (c.1 + 1) ≡ 2 ^ c.1 * 2 = t in
    mod-eq_of_lt (omega arith) ∙ is))
    (λ h. inr h) w

-- Entries of a history that a pass's classes are cut in two on
module _ {E : Type 0} (cs : List (ℕ × ℕ)) (are : AreClasses cs) where
  pub entries_in-halved : (l : Log E) → AtFirsts cs l → entries_in (halved cs) l ≡ entries_in cs l
  entries_in-halved [] f = refl
  entries_in-halved (e ∷ es) f =
      let t : within (halved cs) e.0 ≡ within cs e.0 =
      same_test _ _ (λ h. is_within cs e.0 (left_within e.0 cs are (within_is (halved cs) e.0 h)))
      (λ h. is_within (halved cs) e.0 (kept_half e.0 cs are f.0 (within_is cs e.0 h))) in
      λ i. if t i then e ∷ entries_in-halved es f.1 i else entries_in-halved es f.1 i

  pub entries_in-other_half : (l : Log E) → AtFirsts cs l → entries_in (other_half cs) l ≡ []
  entries_in-other_half [] f = refl
  entries_in-other_half (e ∷ es) f =
      cond-false (within (other_half cs) e.0) _ _
      (false_from_ne_true _ (λ h. other_out e.0 cs are f.0 (within_is (other_half cs) e.0 h)))
      ∙ entries_in-other_half es f.1

module _ {E : Type 0} (cs : List (ℕ × ℕ)) where
  pub foreign_entries : (l : Log E) → entries_in cs l ≡ [] → Foreign cs l
  foreign_entries [] e = tt
  foreign_entries (x ∷ xs) e = by_test (within cs x.0) refl e (λ h. foreign_entries xs h)
    where
      by_test : (b : Bool) → within cs x.0 ≡ b → (if b then x ∷ entries_in cs xs else entries_in cs xs)
          ≡ [] → (entries_in cs xs ≡ [] → Foreign cs xs) → Foreign cs (x ∷ xs)
      by_test true is e f = absurd (grind arith)
      by_test false is e f = ((λ w. both_ways false refl (sym is ∙ is_within cs x.0 w)), f e)

  entries_in_one : (n : ℕ) (e : E) → Within n cs → entries_in cs ((n, e) ∷ []) ≡ (n, e) ∷ []
  entries_in_one n e w = cond-true (within cs n) ((n, e) ∷ []) [] (is_within cs n w)

  -- a call was entered under a seat of the classes, after entries of other seats
  pub entries_in_after : (seen between : Log E) (n : ℕ) (e : E) → Foreign cs between → Within n cs
      → entries_in cs ((seen ++ between) ++ (n, e) ∷ []) ≡ entries_in cs seen ++ (n, e) ∷ []
  entries_in_after seen between n e f w =
      entries_in-append cs (seen ++ between) ((n, e) ∷ [])
      ∙ (λ i. entries_in_ahead cs seen between f i ++ entries_in_one n e w i)

  -- the same under the first of them
  pub entries_in_step : (seen between : Log E) (e : E) → cs ≢ [] → AreClasses cs → Foreign cs between
      → entries_in cs ((seen ++ between) ++ (first_of cs, e) ∷ [])
      ≡ entries_in cs seen ++ (first_of cs, e) ∷ []
  entries_in_step seen between e full are f =
      entries_in_after seen between (first_of cs) e f (first_within cs full are)

ones : (b d : Bool) → (b ≡ true → d ≡ true → ⊥) → one_if (b || d) ≡ one_if b + one_if d
ones true true apart = absurd (apart refl refl)
ones true false apart = omega arith
ones false d apart = omega arith

module _ {E : Type 0} (cs ds : List (ℕ × ℕ)) where
  -- the entries of classes that are apart weigh what those of each weigh
  pub weigh_apart : Apart cs ds → (f : ℕ × E → ℕ) (l : Log E)
      → weigh f (entries_in (cs ++ ds) l) ≡ weigh f (entries_in cs l) + weigh f (entries_in ds l)
  weigh_apart apart f [] = omega arith
  weigh_apart apart f (e ∷ es) = let r = weigh_apart apart f es in
      let a = weigh_entries (cs ++ ds) f e es in
      let b = weigh_entries cs f e es in
      let c = weigh_entries ds f e es in
      let t : one_if (within (cs ++ ds) e.0)
      ≡ one_if (within cs e.0) + one_if (within ds e.0) = ap one_if (within-append cs ds e.0)
      ∙ ones (within cs e.0) (within ds e.0) (λ x y. apart e.0 (within_is cs e.0 x) (within_is ds e.0 y)) in
      let m : one_if (within (cs ++ ds) e.0) * f e
      ≡ one_if (within cs e.0) * f e + one_if (within ds e.0) * f e =
      ap (λ (k : ℕ). k * f e) t ∙ spread (one_if (within cs e.0)) (one_if (within ds e.0)) (f e) in
      omega arith
    where
      spread : (x y z : ℕ) → (x + y) * z ≡ x * z + y * z
      spread x y z = omega arith

  -- classes that have none of the entries add none
  pub entries_in_more : (l : Log E) → Foreign ds l → entries_in (cs ++ ds) l ≡ entries_in cs l
  entries_in_more [] f = refl
  entries_in_more (e ∷ es) f =
      let t : within (cs ++ ds) e.0 ≡ within cs e.0 = within-append cs ds e.0
      ∙ by_test (within cs e.0) (within ds e.0) (false_from_ne_true _ (λ h. f.0 (within_is ds e.0 h))) in
      λ i. if t i then e ∷ entries_in_more es f.1 i else entries_in_more es f.1 i
    where
      by_test : (b d : Bool) → d ≡ false → (b || d) ≡ b
      by_test true d is = refl
      by_test false d is = is

-- after what all seats have seen there is nothing
module _ {E : Type 0} (cs : List (ℕ × ℕ)) (all : (n : ℕ) → Within n cs) where
  none_foreign : (l : Log E) → Foreign cs l → l ≡ []
  none_foreign [] f = refl
  none_foreign (e ∷ es) f = absurd (f.0 (all e.0))

  pub all_seen : (seen log : Log E) → Ahead cs seen log → log ≡ seen
  all_seen seen log ahead =
      ahead.1 ∙ (ap (λ (l : Log E). seen ++ l) (none_foreign ahead.0 ahead.2) ∙ append-nil seen)
