-- To be believed: what the scripts of a memory net have.
use Rattle.std.specs.Prelude.{ℕ, zero, suc, ◌+◌, ◌<◌, ◌^◌, List, [], ◌∷◌, ◌++◌, length, All}
use Rattle.outside.specs.ListenCauses.{Plan}
use Rattle.poller.specs.declared.script.Script.{Script}
use Rattle.poller.specs.declared.script.ScriptStep.{ScriptStep}

-- the input that steps bring, laid end to end
abbrev pub pieces_in : List ScriptStep → List ℕ
pieces_in [] = []
pieces_in (s ∷ ss) = s.piece.items ++ pieces_in ss

-- how many bytes steps allow to be written
abbrev pub allowed_in : List ScriptStep → ℕ
allowed_in [] = 0
allowed_in (s ∷ ss) = s.allowance + allowed_in ss

-- the plans of scripts that are numbered from n on: the number, and the whole input
abbrev pub plans_from : ℕ → List Script → List Plan
plans_from n [] = []
plans_from n (s ∷ ss) = (n, pieces_in s.steps.items) ∷ plans_from (suc n) ss

-- the steps of the script with a number
abbrev pub steps_at : List Script → ℕ → List ScriptStep
steps_at [] n = []
steps_at (s ∷ ss) zero = s.steps.items
steps_at (s ∷ ss) (suc n) = steps_at ss n

-- the room of the script with a number
abbrev pub room_at : List Script → ℕ → ℕ
room_at [] n = 0
room_at (s ∷ ss) zero = s.room
room_at (s ∷ ss) (suc n) = room_at ss n

-- there are fewer than 2^32 scripts, each with fewer than 2^32 steps
pub record AreScripts (scripts : List Script) : Type 0 where
  pub count : length scripts < 2 ^ 32
  pub lengths : All (λ (s : Script). length s.steps.items < 2 ^ 32) scripts
