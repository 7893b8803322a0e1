-- Passes that are split off one by one share all seats.
use Rattle.std.proofs.Common.{◌≡◌, ℕ, ◌%◌, ◌^◌, ◌<◌, List, [], ◌∷◌, ◌++◌, set, sym, subst, ap, ◌∙◌, Some}
use Rattle.std.proofs.Common.{arith, mod-lt}
use Rattle.std.specs.Prelude.{slice_get}
use Rattle.std.proofs.lemmas.List.Elements.{All-set, All-append}
use Rattle.turn_cell.specs.declared.view.View.{View}
use Rattle.turn_cell.specs.declared.pass.Pass.{Pass}
use Rattle.turn_cell.specs.Classes.{count_in}
use Rattle.turn_cell.specs.View.{first_view}
use Rattle.turn_cell.specs.Calls.{view_of, IsSplit}
use Rattle.turn_cell.specs.ListLaws.{one_eq, weigh_set, weigh-append}
use Rattle.level.specs.Leveling.{views_of, HoldsEachOnce, IsFresh, AreFresh}
use Rattle.level.specs.Meanings.{PassMeaning, views, IsFirstPass, WereSplit, KeepSeats, HoldAllSeats}
use Rattle.level.specs.ListLaws.{All-get, one_all, get_map}
use Rattle.std.proofs.lemmas.List.{map-set, map-append}
use Rattle.level.specs.Laws.{once_by}

module _ {E : Type 0} where
  -- the first pass alone has each number once
  pub first_once : (v : View E) (name : List ℕ) → v ≡ first_view name → HoldsEachOnce (v ∷ [])
  first_once v name is n =
      let e : count_in n v.classes ≡ count_in n ((0, 0) ∷ []) =
      ap (λ (x : View E). count_in n x.classes) is in
      let small : n % 2 ^ 0 < 1 = mod-lt n (omega arith) in
      let z = one_eq (n % 2 ^ 0) 0 (omega arith) in
      omega arith

  pub first_fresh : (v : View E) (name : List ℕ) → v ≡ first_view name → AreFresh name (v ∷ [])
  first_fresh v name is = one_all (IsFresh name) v record {
    name = ap (λ (y : View E). y.name) is;
    seen = ap (λ (y : View E). y.seen) is;
    tries = ap (λ (y : View E). y.tries) is;
    found = ap (λ (y : View E). y.found) is;
    met_spent = ap (λ (y : View E). y.met_spent) is;
  }

  -- one of the passes was split
  pub once_more : (vs : List (View E)) (i : ℕ) (v w o : View E) → slice_get vs i ≡ Some v → IsSplit v w o
      → HoldsEachOnce vs → HoldsEachOnce (set vs i w ++ o ∷ [])
  once_more vs i v w o at cut once n = let f : View E → ℕ = λ x. count_in n x.classes in
      let a = weigh_set f vs i w v at in
      let b = weigh-append f (set vs i w) (o ∷ []) in
      let h = cut.counts n in
      let t = once n in
      omega arith

  pub fresh_more : (name : List ℕ) (vs : List (View E)) (i : ℕ) (v w o : View E) → slice_get vs i ≡ Some v
      → IsSplit v w o → AreFresh name vs → AreFresh name (set vs i w ++ o ∷ [])
  fresh_more name vs i v w o at cut fresh = let was = All-get (IsFresh name) vs i v at fresh in
      let left : IsFresh name w = record {
        name = ap (λ (y : View E). y.name) cut.left ∙ was.name;
        seen = ap (λ (y : View E). y.seen) cut.left ∙ was.seen;
        tries = ap (λ (y : View E). y.tries) cut.left ∙ was.tries;
        found = ap (λ (y : View E). y.found) cut.left ∙ was.found;
        met_spent = ap (λ (y : View E). y.met_spent) cut.left ∙ was.met_spent;
      } in
      let right : IsFresh name o = record {
        name = ap (λ (y : View E). y.name) cut.right ∙ was.name;
        seen = ap (λ (y : View E). y.seen) cut.right ∙ was.seen;
        tries = ap (λ (y : View E). y.tries) cut.right;
        found = ap (λ (y : View E). y.found) cut.right;
        met_spent = ap (λ (y : View E). y.met_spent) cut.right;
      } in
      All-append (IsFresh name) (set vs i w) (o ∷ []) (All-set (IsFresh name) vs i w left fresh)
      (one_all (IsFresh name) o right)

module _ {P E : Type 0} where
  -- what the passes know, where the first was split
  pub views_split : (ps : List (Pass P E)) (p o : Pass P E)
      → views_of (set ps 0 p ++ o ∷ []) ≡ set (views_of ps) 0 (view_of p) ++ view_of o ∷ []
  views_split ps p o =
      map-append view_of (set ps 0 p) (o ∷ []) ∙ ap (λ l. l ++ view_of o ∷ []) (map-set view_of ps 0 p)

-- ---- the same of each cell

module _ {P O : Type 0} (m : PassMeaning P O) where
  pub first_seats : (p : P) → IsFirstPass m p → HoldAllSeats m (p ∷ [])
  first_seats p first k = first_once (m.view k p) (first k).0 (first k).1

  pub more_seats : (ps : List P) (i : ℕ) (p p' o : P) → slice_get ps i ≡ Some p → WereSplit m p p' o
      → HoldAllSeats m ps → HoldAllSeats m (set ps i p' ++ o ∷ [])
  more_seats ps i p p' o at cut once k = subst HoldsEachOnce
      (sym (map-append (m.view k) (set ps i p') (o ∷ [])
      ∙ ap (λ l. l ++ m.view k o ∷ []) (map-set (m.view k) ps i p')))
      (once_more (views m k ps) i (m.view k p) (m.view k p') (m.view k o) (get_map (m.view k) ps i p at)
      (cut k) (once k))

  pub kept_seats : (ps qs : List P) → KeepSeats m ps qs → HoldAllSeats m ps → HoldAllSeats m qs
  kept_seats ps qs same once k = once_by (views m k ps) (views m k qs) (same k) (once k)
