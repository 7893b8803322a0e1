-- To be believed: what a pass knows, and what each call makes of it.
use Rattle.std.specs.Prelude.{ℕ, ◌+◌, ◌^◌, ◌⊎◌, ◌||◌, ◌==◌, List, [], ◌∷◌, ◌++◌, true, false}
use Rattle.turn_cell.specs.declared.view.Turn.{Turn}
use Rattle.turn_cell.specs.declared.view.Turn.TheVariants.{Idle, Making}
use Rattle.turn_cell.specs.declared.view.JoinPending.{JoinPending}
use Rattle.turn_cell.specs.declared.view.JoinPending.TheVariants.{Nothing, Joined}
use Rattle.turn_cell.specs.declared.view.View.{View}
use Rattle.turn_cell.specs.Classes.{first_of, halved, other_half}
use Rattle.turn_cell.specs.History.{Log, entries_in, Ahead, longer}

module _ {E : Type 0} where
  -- the entries that were made with the pass, of those that it has seen
  abbrev pub own_entries : View E → Log E
  own_entries v = entries_in v.classes v.seen

  -- the seat that the pass's calls are entered under
  abbrev pub seat_of : View E → ℕ
  seat_of v = first_of v.classes

  -- the turn is held, or held no more
  abbrev pub turned : Turn E → View E → View E
  turned t v = record v { turn = t }

  -- one `fetch_or` more was made, and found this word
  abbrev pub tried : ℕ → Turn E → View E → View E
  tried n t v =
      record v { tries = v.tries + 1; found = n; met_spent = v.met_spent || (n == 2 ^ 63); turn = t }

  -- this history was seen, and the turn is held no more
  abbrev pub has_seen : Log E → View E → View E
  has_seen log v = record v { seen = log; turn = Idle }

  -- the pass that makes a cell: all numbers are its seats, and it has seen nothing
  abbrev pub newcomer : List ℕ → View E
  newcomer name = record {
    name = name;
    seen = [];
    classes = (0, 0) ∷ [];
    tries = 0;
    found = 0;
    met_spent = false;
    turn = Making;
    told = Nothing;
    gone = false;
  }

  -- the first pass of a new cell
  abbrev pub first_view : List ℕ → View E
  first_view name = turned Idle (newcomer name)

  -- what a pass keeps that is split: all but the other half of its first class
  abbrev pub left_of : View E → View E
  left_of v = record v { classes = halved v.classes }

  -- what is split off it: what it has seen, the other half of its first class, and no `fetch_or`
  abbrev pub right_of : View E → View E
  right_of v = record (first_view v.name) { seen = v.seen; classes = other_half v.classes }

  -- two passes joined: the longer of what they had seen, and the classes of both
  abbrev pub joined_of : View E → View E → View E
  joined_of v w = record v {
    seen = longer v.seen w.seen;
    classes = v.classes ++ w.classes;
    tries = v.tries + w.tries;
    met_spent = v.met_spent || w.met_spent;
    told = Nothing;
  }

  -- the same, as long as it is to be told how the two stood to each other
  abbrev pub both_of : View E → View E → View E
  both_of v w = record (joined_of v w) { told = Joined v.seen v.classes w.seen w.classes }

  -- the pass was joined into another
  abbrev pub gone_view : View E
  gone_view = record (first_view []) { classes = []; gone = true }

  -- of two passes that were joined, one had seen the beginning of what the other had, and
  -- nothing of its own was after that
  abbrev pub JoinFits : JoinPending E → Type 0
  JoinFits Nothing = Unit {0}
  JoinFits (Joined xs cs ys ds) = Ahead ds ys xs ⊎ Ahead cs xs ys
