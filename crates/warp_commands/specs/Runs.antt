-- To be believed: what the call that a program is does at each command.
use Rattle.std.specs.Prelude.{◌≡◌, ℕ, List, Option, None, MatchOption, IfSome}
use Rattle.outside.specs.Causes.{LinkTold}
use Rattle.outside.specs.declared.files.Files.{Ghosts}
use Rattle.outside.specs.FileCauses.{FilesTold}
use Rattle.outside.specs.Folder.{Folder}
use Rattle.outside.specs.Moments.{ClockTold}
use Rattle.outside.specs.SinkCauses.{SinkTold}
use Rattle.poller.specs.Faults.{PollerFaults}
use Rattle.warp_books.specs.Books.{BookTold}
use Rattle.warp_books.specs.declared.sum_book.SumBook.{SumBook}
use Rattle.warp_front.specs.Fronts.{FrontTold}
use Rattle.warp_core.specs.declared.served.Served.{Served}
use Rattle.warp_commands.specs.declared.status.Status.{Status}
use Rattle.warp_commands.specs.declared.status.Status.TheVariants.{Usage, NoMemory}
use Rattle.warp_commands.specs.Causes.{HasCause, Leaves}
use Rattle.warp_commands.specs.Driven.{DrivesTo, WasDriven}
use Rattle.warp_commands.specs.Served.{IsAnsweredFor}
use Rattle.warp_commands.specs.Serving.{ServesFolder, ServingTold}
use Rattle.warp_commands.specs.ServiceWords.{ServiceTold}
use Rattle.warp_commands.specs.Words.{Reading, no_command, connection, serve, drive}

-- what contracts know of what a command works on, beside the stream for errors
pub record HostTold : Type 0 where
  pub link : LinkTold
  pub files : FilesTold
  pub clock : ClockTold
  pub out : SinkTold
  pub front : FrontTold

-- One connection was served: its bytes are answered, its status has its cause, and what isn't its own stays
pub record ServesOne (folder : Option Folder) (root : List ℕ) (status : Status)
    (old new : HostTold) : Type 0 where
  pub answered : IsAnsweredFor status folder old.link new.link old.clock new.clock
  pub caused : HasCause status (connection root) old.link new.link old.files new.files
  pub leaves : Leaves status old.link new.link old.files new.files old.clock new.clock
  pub prints : new.out ≡ old.out
  pub asks : new.front ≡ old.front

module _ {P F C G L I X : Type 0} {H : Ghosts F X} where
  -- A load was served, and nothing but it: the link, the files and the clock are as they were. Without memory
  -- nothing was served, or the server's own end says so
  pub record ServesLoad (connections dispatchers : ℕ) (status : Status) (old new : HostTold)
      (driven : Option (Served P F C SumBook G L I X H)) : Type 0 where
    pub others : new ≡ record old { out = new.out }
    pub served : IfSome driven (λ s. WasDriven connections dispatchers s)
    pub drives : MatchOption driven ((status ≡ NoMemory) × (new.out ≡ old.out))
        (λ s. DrivesTo status old.out new.out s)

-- what a server over a front works on
abbrev pub serving_of : HostTold → ServingTold
serving_of host = record { files = host.files; out = host.out; front = host.front }

module _ {P F C B G L I X : Type 0} {H : Ghosts F X} (told : B → BookTold) (faults : P → PollerFaults)
    (clock : C → ClockTold) where
  -- Whoever connected was served, or why not, and nothing else was done: the one link
  -- and the clock are as they were
  pub record ServesMany (root : List ℕ) (service : ServiceTold) (status : Status) (old new : HostTold)
      (served : Option (Served P F C B G L I X H)) : Type 0 where
    pub others : new ≡ record old { files = new.files; out = new.out; front = new.front }
    pub serves : ServesFolder told faults clock status root service (serving_of old) (serving_of new) served

module _ {P F C B G L I X : Type 0} {H : Ghosts F X} {P2 F2 C2 G2 L2 I2 X2 : Type 0} {H2 : Ghosts F2 X2}
    (told : B → BookTold) (faults : P → PollerFaults) (clock : C → ClockTold) where
  -- what is done for the words of a command line, and what is left of a server over the
  -- front and of one over a load
  abbrev pub Runs : Option Folder → Reading → Status → (old new : HostTold)
      → Option (Served P F C B G L I X H) → Option (Served P2 F2 C2 SumBook G2 L2 I2 X2 H2) → Type 0
  Runs folder no_command status old new served driven =
      (status ≡ Usage) × (new ≡ old) × (served ≡ None) × (driven ≡ None)
  Runs folder (connection root) status old new served driven =
      ServesOne folder root status old new × (served ≡ None) × (driven ≡ None)
  Runs folder (serve root service) status old new served driven =
      ServesMany told faults clock root service status old new served × (driven ≡ None)
  Runs folder (drive seed connections requests dispatchers) status old new served driven =
      ServesLoad connections dispatchers status old new driven × (served ≡ None)
