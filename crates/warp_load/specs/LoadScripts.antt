-- To be believed: the scripts of the load: the pieces of each input, and what may be written meanwhile.
use Rattle.std.specs.Prelude.{ℕ, zero, suc, ◌+◌, ◌*◌, ◌%◌, ◌==◌, List, [], ◌∷◌, length, take, drop, map}
use Rattle.std.specs.Prelude.{sum_by, if◌then◌else◌}
use Rattle.std.specs.List.{range_with_len}
use Rattle.outside.specs.ListenCauses.{Plan}
use Rattle.poller.specs.declared.script.Script.{Script}
use Rattle.poller.specs.declared.script.ScriptStep.{ScriptStep}
use Rattle.warp_load.specs.declared.request_kind.RequestKind.{RequestKind}
use Rattle.warp_load.specs.declared.request_kind.RequestKind.TheVariants.{Index, Text, TextHead, Big, Absent}
use Rattle.warp_load.specs.declared.request_kind.RequestKind.TheVariants.{Folder, Posted, Browser}
use Rattle.warp_load.specs.Requests.{load_input, request_kinds}

-- how many bytes step k of connection i brings, where this many are left
unfoldable pub piece_length : (seed i k : ℕ) → ℕ
piece_length seed i k = 1 + (seed + i + k) % 61

-- how many bytes step k of connection i allows to be written
unfoldable pub piece_allowance : (seed i k : ℕ) → ℕ
piece_allowance seed i k = 1 + (seed + 3 * i + 7 * k) % 977

-- The steps from step k on that bring these bytes, each with its piece and its allowance: the next bytes, or
-- what is left. At most this many steps, which is enough where there are as many as bytes, since each brings
-- one.
unfoldable pub steps_within : (seed i most k : ℕ) → List ℕ → List (List ℕ × ℕ)
steps_within seed i zero k s = []
steps_within seed i (suc most) k [] = []
steps_within seed i (suc most) k (b ∷ s) =
    (take (piece_length seed i k) (b ∷ s), piece_allowance seed i k)
    ∷ steps_within seed i most (k + 1) (drop (piece_length seed i k) (b ∷ s))

-- the steps of connection i from step k on that bring these bytes
abbrev pub steps_for : (seed i k : ℕ) → List ℕ → List (List ℕ × ℕ)
steps_for seed i k s = steps_within seed i (length s) k s

-- how many bytes the answer to a request has that doesn't close the connection
unfoldable pub answer_length : RequestKind → ℕ
answer_length Index = 140
answer_length Text = 1141
answer_length TextHead = 141
answer_length Big = 40141
answer_length Absent = 104
answer_length Folder = 133
answer_length Posted = 140
answer_length Browser = 141

-- how many bytes more the last answer has, which closes the connection where it is the thousandth
abbrev pub closing_length : (requests : ℕ) → ℕ
closing_length requests = if requests == 1000 then 19 else 0

-- room for the answers of connection i
unfoldable pub load_room : (seed requests i : ℕ) → ℕ
load_room seed requests i = sum_by answer_length (request_kinds seed requests i) + closing_length requests

-- the script of connection i: its steps, and its room
abbrev pub load_script : (seed requests i : ℕ) → List (List ℕ × ℕ) × ℕ
load_script seed requests i = (steps_for seed i 0 (load_input seed requests i), load_room seed requests i)

-- the scripts of all connections, in order
abbrev pub load_scripts : (seed connections requests : ℕ) → List (List (List ℕ × ℕ) × ℕ)
load_scripts seed connections requests = map (λ i. load_script seed requests i) (range_with_len 0 connections)

-- the plans of all connections: each has its number and its whole input
abbrev pub load_plans : (seed connections requests : ℕ) → List Plan
load_plans seed connections requests =
    map (λ i. (i, load_input seed requests i)) (range_with_len 0 connections)

-- what a step of a script has
abbrev pub step_shown : ScriptStep → List ℕ × ℕ
step_shown step = (step.piece.items, step.allowance)

-- what a script has
abbrev pub script_shown : Script → List (List ℕ × ℕ) × ℕ
script_shown script = (map step_shown script.steps.items, script.room)
