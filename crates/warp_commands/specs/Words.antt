-- To be believed: what the words of a command line mean.
use Rattle.std.specs.Prelude.{ℕ, ◌≤◌, ◌&&◌, List, [], ◌∷◌, length, Option, Some, None, Result, Ok, Err, codes}
use Rattle.std.specs.Prelude.{bytes_eq, nat_lt, if◌then◌else◌}
use Rattle.warp_load.specs.LoadWords.{dispatchers_read, load_read}
use Rattle.warp_commands.specs.declared.command.Command.{Command}
use Rattle.warp_commands.specs.declared.command.Command.TheVariants.{Connection, Serve, Drive}
use Rattle.warp_commands.specs.declared.command.Usage.{Usage}
use Rattle.warp_commands.specs.ServiceWords.{IsService, ServiceTold, service_read, service_shown}

-- what a command line asks for
pub data Reading : Type 0 where
  no_command : Reading
  connection : (root : List ℕ) → Reading
  serve : (root : List ℕ) → (service : ServiceTold) → Reading
  drive : (seed connections requests dispatchers : ℕ) → Reading

-- two words: `connection` and a root that isn't empty
abbrev pub connection_read : List ℕ → List ℕ → Reading
connection_read command root =
    if bytes_eq command (codes "connection") && nat_lt 0 (length root) then connection root else no_command

-- a root, and a service
abbrev pub serve_of : List ℕ → Option ServiceTold → Reading
serve_of root (Some service) = serve root service
serve_of root None = no_command

-- seven words: `serve`, a root that isn't empty, and five that are a service
abbrev pub serve_read : (command root address port dispatchers connections seconds : List ℕ) → Reading
serve_read command root address port dispatchers connections seconds =
    if bytes_eq command (codes "serve") && nat_lt 0 (length root)
    then serve_of root (service_read address port dispatchers connections seconds) else no_command

-- the numbers of a load, and of dispatchers
abbrev pub drive_of : Option (ℕ × ℕ × ℕ) → Option ℕ → Reading
drive_of (Some load) (Some dispatchers) = drive load.0 load.1 load.2 dispatchers
drive_of (Some load) None = no_command
drive_of None _ = no_command

-- five words: `drive`, three that are a load, and one that is a number of dispatchers, 1 to 64
abbrev pub drive_read : (command seed connections requests dispatchers : List ℕ) → Reading
drive_read command seed connections requests dispatchers =
    if bytes_eq command (codes "drive")
    then drive_of (load_read seed connections requests) (dispatchers_read dispatchers) else no_command

-- what these words ask for
abbrev pub words_read : List (List ℕ) → Reading
words_read (command ∷ root ∷ []) = connection_read command root
words_read (command ∷ root ∷ address ∷ port ∷ dispatchers ∷ connections ∷ seconds ∷ []) =
    serve_read command root address port dispatchers connections seconds
words_read (command ∷ seed ∷ connections ∷ requests ∷ dispatchers ∷ []) =
    drive_read command seed connections requests dispatchers
words_read _ = no_command

-- the root of a command that serves one connection
abbrev pub root_in : Reading → Option (List ℕ)
root_in no_command = None
root_in (connection root) = Some root
root_in (serve root service) = None
root_in (drive seed connections requests dispatchers) = None

-- what an answer of `command_of` says
abbrev pub command_shown : Result Command Usage → Reading
command_shown (Ok (Connection root)) = connection root.now
command_shown (Ok (Serve root service)) = serve root.now (service_shown service)
command_shown (Ok (Drive load dispatchers)) = drive load.seed load.connections load.requests dispatchers
command_shown (Err usage) = no_command

-- the numbers of a command lie in their ranges: 1 to 64 dispatchers, and what else a service has
abbrev pub IsWithin : Command → Type 0
IsWithin (Connection root) = Unit {0}
IsWithin (Serve root service) = IsService service
IsWithin (Drive load dispatchers) = (1 ≤ dispatchers) × (dispatchers ≤ 64)
