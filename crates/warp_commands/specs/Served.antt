-- To be believed: what a connection leaves that was served with the files of a folder, by its
-- bytes, its moments and its end.
use Rattle.std.specs.Prelude.{◌≡◌, ◌⊎◌, ◌↔◌, ℕ, ◌≤◌, Bool, List, [], ◌++◌, length, Option, IfSome}
use Rattle.outside.specs.Causes.{LinkTold}
use Rattle.outside.specs.Counts.{Counts}
use Rattle.outside.specs.Folder.{Folder}
use Rattle.outside.specs.Moments.{ClockTold, Gives}
use Rattle.conn_loop.specs.Answers.{answers_of, finals_of}
use Rattle.conn_loop.specs.Replying.{Replying, folder_replies}
use Rattle.conn_loop.specs.Ends.{IsCleanEnd, IsCutShort, StepImplies}
use Rattle.conn_loop.specs.declared.step.Step.TheVariants.{WantRead, WantWrite, Done}
use Rattle.conn_loop.specs.declared.step.End.TheVariants as End
use Rattle.warp_commands.specs.declared.status.Status.{Status}
use Rattle.warp_commands.specs.declared.status.Status.TheVariants.{Clean, Cut, Usage, ReadFault, WriteFault}
use Rattle.warp_commands.specs.declared.status.Status.TheVariants.{FileFault, NoMemory, NoSuchFolder}
use Rattle.warp_commands.specs.declared.status.Status.TheVariants.{PollFault, AcceptFault, Spent, OutFault}
use Rattle.warp_commands.specs.declared.status.Status.TheVariants.{CannotListen, NotReady, TurnedAway}
use Rattle.warp_commands.specs.Causes.{WaitsToRead, WaitsToWrite}

-- no byte was read and none was written
abbrev pub IsUnused : (taken sent : List ℕ) → Type 0
IsUnused taken sent = (taken ≡ []) × (sent ≡ [])

-- What holds of the bytes at each status: what the connection's last step says of them, or, where no
-- connection was begun, that there are none. A link that isn't ready is waited for in one direction, and by
-- the direction all that is due was sent, or some of it wasn't.
abbrev pub HoldsAt : Status → (before later : Counts) → Replying → (moments taken sent : List ℕ)
    → Option Bool → Type 0
HoldsAt Clean before later reply moments taken sent ended =
    StepImplies (Done End.Clean) reply moments taken sent ended
HoldsAt Cut before later reply moments taken sent ended =
    StepImplies (Done End.Cut) reply moments taken sent ended
HoldsAt Usage before later reply moments taken sent ended = IsUnused taken sent
HoldsAt ReadFault before later reply moments taken sent ended =
    StepImplies (Done End.ReadFault) reply moments taken sent ended
HoldsAt WriteFault before later reply moments taken sent ended =
    StepImplies (Done End.WriteFault) reply moments taken sent ended
HoldsAt FileFault before later reply moments taken sent ended =
    StepImplies (Done End.FileFault) reply moments taken sent ended ⊎ IsUnused taken sent
HoldsAt NoMemory before later reply moments taken sent ended =
    StepImplies (Done End.NoMemory) reply moments taken sent ended ⊎ IsUnused taken sent
HoldsAt NoSuchFolder before later reply moments taken sent ended = IsUnused taken sent
HoldsAt PollFault before later reply moments taken sent ended = ⊥
HoldsAt AcceptFault before later reply moments taken sent ended = ⊥
HoldsAt Spent before later reply moments taken sent ended = ⊥
HoldsAt OutFault before later reply moments taken sent ended = ⊥
HoldsAt CannotListen before later reply moments taken sent ended = ⊥
HoldsAt TurnedAway before later reply moments taken sent ended = ⊥
HoldsAt NotReady before later reply moments taken sent ended =
    (WaitsToRead before later × StepImplies WantRead reply moments taken sent ended)
    ⊎ (WaitsToWrite before later × StepImplies WantWrite reply moments taken sent ended)

-- What is known of the bytes of a connection, whatever its status: at moments that the clock gave, the
-- bytes sent are a prefix of the answers to the bytes taken, in order; and the statuses of a clean end and
-- of a cut come exactly at these.
pub record IsAnswered (status : Status) (before later : Counts) (clock after : ClockTold)
    (ended : Option Bool)
    (reply : Replying) (taken sent : List ℕ) : Type 0 where
  pub moments : List ℕ
  pub given_by_clock : Gives moments clock after
  pub no_more : length moments ≤ finals_of taken
  pub unsent : List ℕ
  pub prefix : answers_of reply taken moments ≡ sent ++ unsent
  pub clean : (status ≡ Clean) ↔ IsCleanEnd reply moments taken sent ended
  pub cut : (status ≡ Cut) ↔ IsCutShort reply moments taken sent ended
  pub holds : HoldsAt status before later reply moments taken sent ended

-- the same where the link tells its bytes and the files their folder
abbrev pub IsAnsweredFor : Status → Option Folder → (link later : LinkTold)
    → (clock after : ClockTold) → Type 0
IsAnsweredFor status folder link later clock after =
    IfSome folder (λ f. IfSome later.taken (λ t. IfSome later.sent (λ s.
    IsAnswered status link.waits later.waits clock after later.ended (folder_replies f) t s)))
