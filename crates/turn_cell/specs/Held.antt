-- Inner: what the calls inside a turn say.
use Rattle.std.specs.Prelude.{◌≡◌, ◌≢◌, ℕ, ◌^◌, ◌<◌, List, [], ◌∷◌, ◌++◌, length, false, Option, Some}
use Rattle.atomic_table.specs.Table.{Me, rest}
use Rattle.turn_cell.specs.declared.view.Turn.TheVariants.{Holds}
use Rattle.turn_cell.specs.declared.view.View.{View}
use Rattle.turn_cell.specs.History.{Log, IsPart}
use Rattle.turn_cell.specs.View.{seat_of, has_seen}

module _ {E : Type 0} where
  -- the turn was ended, and the entry is the last of the history
  abbrev pub HasEnded : {P : Type 0} → Option E → Me (Option P) (View E) → Me (Option P) (View E) → Type 0
  HasEnded item m m' =
      (l : Log E) (e : E) → m.0.turn ≡ Holds l → item ≡ Some e
      → (m'.0 ≡ has_seen (l ++ (seat_of m.0, e) ∷ []) m.0) × (m'.1 ≡ rest m.1)

  module _ {P : Type 0} (stands : P → Log E → Type 0) (name_of : P → List ℕ) where
    -- the seat holds the turn and the slot, whose part stands for the history
    abbrev pub IsHeld : Me (Option P) (View E) → Type 0
    IsHeld m =
        (l : Log E) × (p : P) × (m.0.turn ≡ Holds l) × (m.1 ≡ (1, Some p) ∷ [])
        × IsPart stands name_of m.0.name l p × (length l < 2 ^ 62) × (m.0.gone ≡ false) × (m.0.classes ≢ [])

    -- the slot has a part that stands for the history and one entry more
    abbrev pub IsReady : Option E → Me (Option P) (View E) → Type 0
    IsReady item m =
        (l : Log E) × (p : P) × (e : E) × (item ≡ Some e) × (m.0.turn ≡ Holds l) × (m.1 ≡ (1, Some p) ∷ [])
        × IsPart stands name_of m.0.name (l ++ (seat_of m.0, e) ∷ []) p × (length l < 2 ^ 62)
        × (m.0.gone ≡ false) × (m.0.classes ≢ [])

    -- the slot has a part of the same name, which stands for one entry more than the part before it
    abbrev pub HasApplied : E → P → Option P → Type 0
    HasApplied e p slot =
        (q : P) × (slot ≡ Some q) × (name_of q ≡ name_of p)
        × ((h : Log E) (seat : ℕ) → stands p h → stands q (h ++ (seat, e) ∷ []))

    -- the call was applied and entered, and the part stands for the history with its entry
    abbrev pub HasRun : {C R : Type 0} → (C → R → E) → C → R → Me (Option P) (View E)
        → Me (Option P) (View E) → Type 0
    HasRun entry call reply m m' =
        (l : Log E) → m.0.turn ≡ Holds l → (m'.0 ≡ has_seen (l ++ (seat_of m.0, entry call reply) ∷ []) m.0)
        × (m'.1 ≡ []) × (p : P) × IsPart stands name_of m'.0.name m'.0.seen p
