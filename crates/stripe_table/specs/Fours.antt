-- To be believed: a list of at most four in four places, filled from the first on.
use Rattle.std.specs.Prelude.{List, [], ◌∷◌, Option, Some, None}

module _ {X : Type 0} where
  -- a place and what is after it
  abbrev pub kept : Option X → List X → List X
  kept None xs = xs
  kept (Some x) xs = x ∷ xs

  -- the values in their order
  abbrev pub listed : Option X → Option X → Option X → Option X → List X
  listed a b c d = kept a (kept b (kept c (kept d [])))

  -- the second place is filled only after the first
  abbrev pub After : Option X → Option X → Type 0
  After None None = Unit {0}
  After None (Some y) = ⊥
  After (Some x) y = Unit {0}

  -- no place is empty before one that is filled
  abbrev pub IsPacked : Option X → Option X → Option X → Option X → Type 0
  IsPacked a b c d = After a b × After b c × After c d
