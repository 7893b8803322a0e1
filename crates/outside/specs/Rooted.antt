-- To be believed: what files tell of their root, and with it of all else.
use Rattle.std.specs.Prelude.{ℕ, Bool, List, Option, Some, None, string_bytes}
use Rattle.outside.specs.declared.files.RootOut.{RootOut}
use Rattle.outside.specs.declared.rooted.Rooted.{Rooted}
use Rattle.outside.specs.FileCauses.{FilesTold}

-- the text and the answer of the last look for the root that is kept
abbrev pub root_told : Option Rooted → Option (List ℕ × RootOut)
root_told None = None
root_told (Some r) = Some (string_bytes r.text, r.answer)

-- what files tell that keep their root, their counts and the paths that were looked for so
abbrev pub told_by : Option Rooted → ℕ → Option (List (List ℕ)) → ℕ → Bool → FilesTold
told_by rooted finds looked faults firm =
    record { rooted = root_told rooted; finds = finds; looked = looked; faults = faults; firm = firm }
