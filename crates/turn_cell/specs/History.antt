-- To be believed: histories, what of a history belongs to classes of seats, and what a
-- part has to do with one.
use Rattle.std.specs.Prelude.{◌≡◌, ℕ, List, [], ◌∷◌, ◌++◌, length, filter, nat_lt, if◌then◌else◌}
use Rattle.turn_cell.specs.Classes.{Within, within, OnlyFirsts}

-- a history: each entry with the seat that it was made under
abbrev pub Log : Type 0 → Type 0
Log E = List (ℕ × E)

module _ {E : Type 0} where
  -- the entries whose seat is in one of the classes
  abbrev pub entries_in : List (ℕ × ℕ) → List (ℕ × E) → List (ℕ × E)
  entries_in cs l = filter (λ e. within cs e.0) l

  -- no entry has a seat in the classes
  abbrev pub Foreign : List (ℕ × ℕ) → Log E → Type 0
  Foreign cs [] = Unit {0}
  Foreign cs (e ∷ es) = ¬ (Within e.0 cs) × Foreign cs es

  -- the history goes on from what was seen, by entries of other seats
  abbrev pub Ahead : List (ℕ × ℕ) → Log E → Log E → Type 0
  Ahead cs seen log = (between : Log E) × (log ≡ seen ++ between) × Foreign cs between

  -- each entry whose seat is in a class (r, k) has the seat r
  abbrev pub AtFirsts : List (ℕ × ℕ) → Log E → Type 0
  AtFirsts cs [] = Unit {0}
  AtFirsts cs (e ∷ es) = OnlyFirsts e.0 cs × AtFirsts cs es

  -- the longer of two beginnings of one history
  abbrev pub longer : Log E → Log E → Log E
  longer xs ys = (if nat_lt (length xs) (length ys) then ys else xs)

  -- the part has this name and stands for this history
  abbrev pub IsPart : {P : Type 0} → (P → Log E → Type 0) → (P → List ℕ) → List ℕ → Log E → P → Type 0
  IsPart stands name_of name log p = stands p log × (name_of p ≡ name)
