-- To be believed: what the type of a finished connection keeps: the bytes that were sent are those of the
-- answers, as far as the connection came, and its end is called as it was.
use Rattle.std.specs.Prelude.{◌≡◌, ℕ, ◌+◌, ◌≤◌, List, length, Option, IfSome}
use Rattle.reg_keys.specs.declared.opening.Opening.{Opening}
use Rattle.outside.specs.Folder.{Folder}
use Rattle.outside.specs.Causes.{LinkTold}
use Rattle.app_trait.specs.FolderMoves.{folder_move}
use Rattle.conn_loop.specs.declared.step.End.TheVariants.{Clean, Cut, ReadFault, WriteFault, FileFault}
use Rattle.conn_loop.specs.declared.step.End.TheVariants.{NoMemory}
use Rattle.conn_loop.specs.Ends.{SendsPrefix, IsCleanEnd, IsCutShort, WhereTold}
use Rattle.conn_loop.specs.Replying.{Serving, replies, serving_over}
use Rattle.conn_loop.specs.ConnState.{ConnState}
use Rattle.warp_books.specs.declared.finish.Finish.{Finish}
use Rattle.warp_books.specs.declared.finish.Finish.TheVariants.{Ended, TimedOut, TurnedAway}
use Rattle.warp_books.specs.Books.{FinishedTold, capped}

-- the application of the folder over the folder of the files, where that is told
abbrev pub folder_serving : Option Folder → Option Serving
folder_serving folder = serving_over (λ request seen. folder_move request seen) folder

-- An end of a connection of its own is called as it was: a clean end and a cut by the bytes, a fault of the
-- link by the link's count. The others say nothing of the bytes
abbrev pub IsTrueEnd : Option Serving → Finish → List ℕ → LinkTold → Type 0
IsTrueEnd serving (Ended Clean) moments link =
    WhereTold serving link (λ v t s. IsCleanEnd (replies v) moments t s link.ended)
IsTrueEnd serving (Ended Cut) moments link =
    WhereTold serving link (λ v t s. IsCutShort (replies v) moments t s link.ended)
IsTrueEnd serving (Ended ReadFault) moments link = 1 ≤ link.faults.reads
IsTrueEnd serving (Ended WriteFault) moments link = 1 ≤ link.faults.writes
IsTrueEnd serving (Ended FileFault) moments link = Unit {0}
IsTrueEnd serving (Ended NoMemory) moments link = Unit {0}
IsTrueEnd serving TimedOut moments link = Unit {0}
IsTrueEnd serving (TurnedAway cause) moments link = Unit {0}

-- A finished connection is true to its link: what was sent is a prefix of the answers to what was taken at
-- its moments, its end is called as it was, and its numbers are those that the link tells
pub record IsTrueTo (serving : Option Serving) (d : FinishedTold) : Type 0 where
  pub prefix : WhereTold serving d.link (λ v t s. SendsPrefix (replies v) d.moments t s)
  pub ends_so : IsTrueEnd serving d.end d.moments d.link
  pub bytes : IfSome d.link.sent (λ s. d.bytes ≡ capped (length s))
  pub waits : d.waits ≡ capped (d.link.waits.reads + d.link.waits.writes)

-- what is finished of a connection that held this
abbrev pub finished_of : Opening → LinkTold → ConnState → Finish → FinishedTold
finished_of o link c end =
    record { opening = o; link = link; moments = c.moments; bytes = c.bytes; waits = c.waits; end = end }

-- an end of which nothing is said of the bytes
abbrev pub IsGivenUp : Finish → Type 0
IsGivenUp (Ended Clean) = ⊥
IsGivenUp (Ended Cut) = ⊥
IsGivenUp (Ended ReadFault) = ⊥
IsGivenUp (Ended WriteFault) = ⊥
IsGivenUp (Ended FileFault) = Unit {0}
IsGivenUp (Ended NoMemory) = Unit {0}
IsGivenUp TimedOut = Unit {0}
IsGivenUp (TurnedAway cause) = Unit {0}
