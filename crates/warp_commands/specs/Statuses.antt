-- To be believed: what each end of a command is called, by number and in words.
use Rattle.std.specs.Prelude.{◌≡◌, ℕ, ◌≤◌, ◌⊎◌, List, [], ◌++◌, option_map, codes}
use Rattle.outside.specs.Counts.{Rises}
use Rattle.outside.specs.SinkCauses.{SinkTold}
use Rattle.warp_commands.specs.declared.status.Status.{Status}
use Rattle.warp_commands.specs.declared.status.Status.TheVariants.{Clean, Cut, Usage, ReadFault, WriteFault}
use Rattle.warp_commands.specs.declared.status.Status.TheVariants.{FileFault, NoMemory, NoSuchFolder}
use Rattle.warp_commands.specs.declared.status.Status.TheVariants.{PollFault, AcceptFault, Spent, OutFault}
use Rattle.warp_commands.specs.declared.status.Status.TheVariants.{CannotListen, NotReady, TurnedAway}

-- the exit status
abbrev pub code_of : Status → ℕ
code_of Clean = 0
code_of Cut = 1
code_of Usage = 2
code_of ReadFault = 3
code_of WriteFault = 4
code_of FileFault = 5
code_of NoMemory = 6
code_of NoSuchFolder = 7
code_of PollFault = 8
code_of AcceptFault = 9
code_of Spent = 10
code_of OutFault = 11
code_of CannotListen = 12
code_of NotReady = 13
code_of TurnedAway = 14

-- the line on the error stream, with its LF
abbrev pub line_of : Status → List ℕ
line_of Clean = []
line_of Cut = codes "input cut short\n"
line_of Usage =
    codes
    "usage: warp_serve connection ROOT | serve ROOT ADDR PORT DISPATCHERS CONNECTIONS SECONDS | drive SEED CONNECTIONS REQUESTS DISPATCHERS\n"
line_of ReadFault = codes "read fault\n"
line_of WriteFault = codes "write fault\n"
line_of FileFault = codes "file fault\n"
line_of NoMemory = codes "out of memory\n"
line_of NoSuchFolder = codes "no such folder\n"
line_of PollFault = codes "poll fault\n"
line_of AcceptFault = codes "accept fault\n"
line_of Spent = codes "numbers used up\n"
line_of OutFault = []
line_of CannotListen = codes "cannot listen\n"
line_of NotReady = codes "not ready\n"
line_of TurnedAway = codes "turned away\n"

-- a sink got exactly this line, unless its count of faults rose
abbrev pub TellsLine : List ℕ → (old new : SinkTold) → Type 0
TellsLine line old new =
    (old.faults ≤ new.faults)
    × (Rises old.faults new.faults ⊎ (new.stored ≡ option_map (λ bytes. bytes ++ line) old.stored))

-- an exit status is that of an end of which this holds
abbrev pub IsStatus : ℕ → (Status → Type 0) → Type 0
IsStatus code P = (status : Status) × (code ≡ code_of status) × P status
