-- To be believed: what the calls on a turn cell say, over what their passes know before and after.
use Rattle.std.specs.Prelude.{◌≡◌, ℕ, ◌+◌, ◌*◌, ◌/◌, ◌%◌, ◌^◌, ◌<◌, List, [], ◌∷◌, ◌++◌, length, true}
use mathlib.Core.List.{IsPrefix}
use Rattle.turn_cell.specs.declared.view.Turn.TheVariants.{Idle}
use Rattle.turn_cell.specs.declared.view.View.{View}
use Rattle.turn_cell.specs.declared.pass.Pass.{Pass}
use Rattle.turn_cell.specs.declared.pass.Stepped.{Stepped}
use Rattle.turn_cell.specs.declared.pass.Stepped.TheVariants as Whole
use Rattle.turn_cell.specs.declared.pass.Tried.{Tried}
use Rattle.turn_cell.specs.declared.pass.Tried.TheVariants.{Done, Busy, Spent}
use Rattle.turn_cell.specs.declared.cell.TurnCell.{TurnCell}
use Rattle.turn_cell.specs.Weights.{weigh}
use Rattle.turn_cell.specs.Classes.{AreClasses, count_in}
use Rattle.turn_cell.specs.History.{Log, entries_in, Foreign, Ahead, IsPart}
use Rattle.turn_cell.specs.View.{own_entries, seat_of, tried, left_of, right_of, joined_of}

module _ {P E : Type 0} where
  -- what the pass knows
  abbrev pub view_of : Pass P E → View E
  view_of p = p.seat.me.0

module _ {P C R E : Type 0} where
  -- the pass is of the cell
  abbrev pub IsOf : TurnCell P C R E → Pass P E → Type 0
  IsOf c p = p.seat.table_id ≡ c.table.shared.table_id

module _ {E : Type 0} where
  -- the pass has seen nothing more, and its entries are what they were
  pub record IsUnmoved (v w : View E) : Type 0 where
    pub name : w.name ≡ v.name
    pub seen : w.seen ≡ v.seen
    pub classes : w.classes ≡ v.classes

  -- the turn was found held, and the pass knows this word and nothing else that is new
  abbrev pub IsRefused : View E → View E → Type 0
  IsRefused v w = (w.found % 2 ≡ 1) × (w ≡ tried w.found Idle v)

  -- the number is the length of a history that goes on from what the pass has seen, by entries of other seats
  abbrev pub CountsAhead : View E → ℕ → Type 0
  CountsAhead v n = (log : Log E) × Ahead v.classes v.seen log × (n ≡ length log)

  -- a pass that knew v was split: it knows w, and the new one o. Its entries stay its own, the new one has
  -- none, and the two share its seats
  pub record IsSplit (v w o : View E) : Type 0 where
    pub left : w ≡ left_of v
    pub right : o ≡ right_of v
    pub own : own_entries w ≡ own_entries v
    pub none : own_entries o ≡ []
    pub counts : (n : ℕ) → count_in n w.classes + count_in n o.classes ≡ count_in n v.classes

  -- a pass that knew o was joined into one that knew v, which then knows w. What either had
  -- seen begins what it has seen, its seats are those of both, and so are its entries: of
  -- either pass exactly those that it had
  pub record IsJoined (v o w : View E) : Type 0 where
    pub both : w ≡ joined_of v o
    pub begins : IsPrefix v.seen w.seen
    pub begins_other : IsPrefix o.seen w.seen
    pub kept : entries_in v.classes w.seen ≡ own_entries v
    pub kept_other : entries_in o.classes w.seen ≡ own_entries o
    pub weighs : (f : ℕ × E → ℕ) → weigh f (own_entries w) ≡ weigh f (own_entries v) + weigh f (own_entries o)
    pub same : own_entries o ≡ [] → own_entries w ≡ own_entries v
    pub counts : (n : ℕ) → count_in n w.classes ≡ count_in n v.classes + count_in n o.classes

  module _ {P : Type 0} (stands : P → Log E → Type 0) (name_of : P → List ℕ) where
    -- A call was entered. What the pass then has seen begins with all that it had seen and ends with the
    -- entry, under the pass's seat; between are entries of other seats alone. So of the pass's own entries it
    -- alone is new. The last word found was twice the entries before it, and the part stands for this history
    pub record Entered (e : E) (v w : View E) : Type 0 where
      pub between : Log E
      pub seen : w.seen ≡ (v.seen ++ between) ++ (seat_of v, e) ∷ []
      pub foreign : Foreign v.classes between
      pub own : own_entries w ≡ own_entries v ++ (seat_of v, e) ∷ []
      pub name : w.name ≡ v.name
      pub classes : w.classes ≡ v.classes
      pub are : AreClasses v.classes
      pub met_spent : w.met_spent ≡ v.met_spent
      pub found : w.found ≡ 2 * length (v.seen ++ between)
      pub short : length (v.seen ++ between) < 2 ^ 62
      pub part : P
      pub is_part : IsPart stands name_of w.name w.seen part

    -- No call was entered, since a history that goes on from what the pass has seen has 2 ^ 62 entries.
    -- The word of that length was found
    pub record WasSpent (v w : View E) : Type 0 where
      pub unmoved : IsUnmoved v w
      pub found : w.found ≡ 2 ^ 63
      pub met_spent : w.met_spent ≡ true
      pub log : Log E
      pub ahead : Ahead v.classes v.seen log
      pub full : length log ≡ 2 ^ 62
      pub part : P
      pub is_part : IsPart stands name_of v.name log part

    -- the part stands for a history that goes on from what the pass had seen, by entries of other seats
    pub record HasClosed (v : View E) (p : P) : Type 0 where
      pub log : Log E
      pub ahead : Ahead v.classes v.seen log
      pub is_part : IsPart stands name_of v.name log p

    module _ {C R : Type 0} (entry : C → R → E) (answers : C → R → Type 0) where
      -- what each answer of one try says: one `fetch_or` was made, and the call was entered and the reply
      -- answers it, or it was handed back where that found the turn held or the history at its longest
      abbrev pub IsStep : C → View E → Tried P C R E → View E → Type 0
      IsStep call v (Done reply) w =
          Entered (entry call reply) v w × (w.tries ≡ v.tries + 1) × answers call reply
      IsStep call v (Busy count back) w = (back ≡ call) × (count ≡ w.found / 2) × IsRefused v w
      IsStep call v (Spent back) w = (back ≡ call) × WasSpent v w × (w.tries ≡ v.tries + 1)

      -- the same of one that waits for its turn, by one `fetch_or` or more
      abbrev pub HasStepped : C → View E → Stepped P C R E → View E → Type 0
      HasStepped call v (Whole.Done reply) w =
          Entered (entry call reply) v w × (v.tries < w.tries) × answers call reply
      HasStepped call v (Whole.Spent back) w = (back ≡ call) × WasSpent v w × (v.tries < w.tries)
