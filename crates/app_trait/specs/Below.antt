-- To be believed: where a look may lead, below the folder that is served and to no hidden file.
use Rattle.std.specs.Prelude.{◌≡◌, ℕ, Bool, ◌&&◌, not, IsTrue, List}
use Rattle.std.specs.List.{list_all, join_with_byte}
use Rattle.path_rules.specs.Route.{is_empty, is_name}
use Rattle.app_trait.specs.Moves.{AppMove, look_at, answer}

-- a name of a folder or a file: at least one byte, and what `is_name` says
abbrev pub is_file_name : List ℕ → Bool
is_file_name name = not (is_empty name) && is_name name

-- a path is names joined with `/`, so it leads downwards from the folder that is served, name by name
pub record LiesBelow (path : List ℕ) : Type 0 where
  pub names : List (List ℕ)
  pub joins : path ≡ join_with_byte 47 names
  pub named : IsTrue (list_all is_file_name names)

-- what is looked for lies below
abbrev pub StaysBelow : AppMove → Type 0
StaysBelow (look_at path) = LiesBelow path
StaysBelow (answer outline) = Unit {0}
