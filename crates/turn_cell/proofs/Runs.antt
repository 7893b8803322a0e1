-- The one slot that a pass holds during a call, and what taking the turn tells.
use Rattle.std.proofs.Common.{◌≡◌, ℕ, ◌%◌, ◌^◌, ◌≢◌, length, ⊎_elim, List, [], ◌∷◌, ◌++◌, sym, ap, ◌∙◌, arith}
use Rattle.std.specs.Prelude.{Option, Some}
use Rattle.atomic_table.specs.Table.{Me, rest}
use Rattle.turn_cell.specs.declared.view.Turn.{Turn}
use Rattle.turn_cell.specs.declared.view.Turn.TheVariants.{Idle, Holds}
use Rattle.turn_cell.specs.declared.view.View.{View}
use Rattle.turn_cell.specs.History.{Log}
use Rattle.turn_cell.specs.View.{has_seen, seat_of, tried}
use Rattle.turn_cell.specs.Rule.{HasAsked, TurnTaken, IsAtRest}
use Rattle.turn_cell.specs.Held.{IsHeld}

module _ {P : Type 0} where
  abbrev lead : Option P → List (ℕ × Option P) → Option P
  lead d [] = d
  lead d (x ∷ xs) = x.1

  pub alone : (m : List (ℕ × Option P)) (o : Option P) → m ≡ (1, o) ∷ [] → m ≡ (1, o) ∷ rest m
  alone m o e = e ∙ ap (λ (z : List (ℕ × Option P)). (1, o) ∷ z) (sym (ap rest e))

  -- the slot that is lent has the part
  pub lent : (m : List (ℕ × Option P)) (p : P) (o : Option P) → m ≡ (1, Some p) ∷ [] → m ≡ (1, o) ∷ rest m
      → o ≡ Some p
  lent m p o e f = ap (lead o) (sym f ∙ e)

  -- and has what was written there once it is back
  pub lent_back : (m : List (ℕ × Option P)) (p q : P) (o : Option P) → m ≡ (1, Some p) ∷ [] → o ≡ Some q
      → (1, o) ∷ rest m ≡ (1, Some q) ∷ []
  lent_back m p q o e f = λ i. (1, f i) ∷ ap rest e i

module _ {E : Type 0} where
  abbrev held_of : Log E → Turn E → Log E
  held_of d (Holds l) = l
  held_of d _ = d

  pub held_list : (l k : Log E) → Holds l ≡ Holds k → l ≡ k
  held_list l k e = ap (held_of l) e

  abbrev pub has_seen_by : Log E → E → View E → View E
  has_seen_by l e v = has_seen (l ++ (seat_of v, e) ∷ []) v

module _ {E P : Type 0} (stands : P → Log E → Type 0) (name_of : P → List ℕ) where
  pub took : (m m' : Me (Option P) (View E)) (n : ℕ) → HasAsked stands name_of m n m'
      → (n % 2 ≡ 1 → ⊥) → TurnTaken stands name_of m n m'
  took m m' n t even =
      ⊎_elim (λ (o : (n % 2 ≡ 1) × (m'.0 ≡ tried n Idle m.0) × (m'.1 ≡ m.1)). absurd (even o.0))
      (λ (h : TurnTaken stands name_of m n m'). h) t

  pub found_held : (m m' : Me (Option P) (View E)) (n : ℕ) → HasAsked stands name_of m n m'
      → n % 2 ≡ 1 → (m'.0 ≡ tried n Idle m.0) × (m'.1 ≡ m.1)
  found_held m m' n t odd =
      ⊎_elim (λ (o : (n % 2 ≡ 1) × (m'.0 ≡ tried n Idle m.0) × (m'.1 ≡ m.1)). (o.1, o.2))
      (λ (h : TurnTaken stands name_of m n m'). let e = h.2 in absurd (omega arith)) t

  pub held_after : (m m' : Me (Option P) (View E)) (n : ℕ) → TurnTaken stands name_of m n m'
      → (n ≡ 2 ^ 63 → ⊥) → IsAtRest m → IsHeld stands name_of m'
  held_after m m' n t less at =
      let e = t.2 in
      let s = t.3 in (
        t.0,
        t.1,
        ap (λ (v : View E). v.turn) t.4,
        t.5 ∙ ap (λ (xs : List (ℕ × Option P)). (1, Some t.1) ∷ xs) at.1,
        (t.6.0, t.6.1 ∙ sym (ap (λ (v : View E). v.name) t.4)),
        (let d : length t.0 ≢ 2 ^ 62 = λ h. less (omega arith) in omega arith),
        ap (λ (v : View E). v.gone) t.4 ∙ at.3,
        λ h. at.4 (sym (ap (λ (v : View E). v.classes) t.4) ∙ h),
      )
