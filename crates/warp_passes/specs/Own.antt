-- To be believed: what a pass did on a cell, and what calls add to it.
use Rattle.std.specs.Prelude.{◌≡◌, List, ◌++◌, map}
use Rattle.turn_cell.specs.declared.view.View.{View}
use Rattle.turn_cell.specs.View.{own_entries}
use Rattle.dispatcher.specs.Stripes.{HasGrown}

module _ {E : Type 0} where
  -- the entries that were made with the pass, in the order of the calls, without their seats
  abbrev pub entries_of : View E → List E
  entries_of v = map (λ e. e.1) (own_entries v)

  -- Of all that the pass did, these entries alone are new. Its seats are the same, it has seen what it had
  -- seen and maybe more, and where it has met a spent cell it doesn't forget that
  pub record Adds (piece : List E) (v w : View E) : Type 0 where
    pub own : entries_of w ≡ entries_of v ++ piece
    pub grown : HasGrown v w
