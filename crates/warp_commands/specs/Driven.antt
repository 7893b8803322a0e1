-- To be believed: what serving a load leaves, how it ended by what was counted, and what it prints.
use Rattle.std.specs.Prelude.{◌≡◌, ◌≢◌, ◌⊎◌, ℕ, ◌<◌, List, ◌++◌, All, length, codes, decimal}
use Rattle.std.specs.Arc.{arc_value}
use Rattle.outside.specs.declared.files.Files.{Ghosts}
use Rattle.outside.specs.declared.sink.SinkOut.TheVariants.{Stored, Failed}
use Rattle.outside.specs.SinkCauses.{Puts, SinkTold}
use Rattle.conn_loop.specs.declared.step.End.TheVariants as End
use Rattle.warp_books.specs.declared.finish.Finish.{Finish}
use Rattle.warp_books.specs.declared.finish.Finish.TheVariants.{Ended, TimedOut, TurnedAway}
use Rattle.warp_books.specs.declared.finish.Turned.TheVariants.{Watches, Crowded, Poller, Shut}
use Rattle.warp_books.specs.declared.sum_book.SumBook.{SumBook}
use Rattle.warp_books.specs.EndCounts.{book_told}
use Rattle.turn_cell.specs.Weights.{weigh}
use Rattle.warp_jobs.specs.declared.kit.Kit.{Kit}
use Rattle.warp_passes.specs.Levels.{ArePassesLevel}
use Rattle.warp_passes.specs.Passes.{AreOf, pass_view}
use Rattle.warp_core.specs.declared.served.Counts.{Counts}
use Rattle.warp_core.specs.declared.served.ServeEnd.{ServeEnd}
use Rattle.warp_core.specs.declared.served.ServeEnd.TheVariants as Serving
use Rattle.warp_core.specs.declared.served.Served.{Served}
use Rattle.warp_core.specs.Ends.{EndsSo}
use Rattle.warp_core.specs.Journals.{AreExplained}
use Rattle.whole_runs.specs.Accounts.{ServedAddsUp}
use Rattle.warp_commands.specs.Headline.{KeepsCallbacks}
use Rattle.warp_commands.specs.declared.status.Status.{Status}
use Rattle.warp_commands.specs.declared.status.Status.TheVariants.{Clean, Cut, Usage, ReadFault, WriteFault}
use Rattle.warp_commands.specs.declared.status.Status.TheVariants.{FileFault, NoMemory, NoSuchFolder}
use Rattle.warp_commands.specs.declared.status.Status.TheVariants.{PollFault, AcceptFault, Spent, OutFault}
use Rattle.warp_commands.specs.declared.status.Status.TheVariants.{CannotListen, NotReady}
use Rattle.warp_commands.specs.declared.status.Status.TheVariants as Exit

-- a server came to its own end, with these counts
abbrev pub IsOverWith : ServeEnd → (Counts → Type 0) → Type 0
IsOverWith (Serving.Over counts) P = P counts
IsOverWith Serving.PollFault P = ⊥
IsOverWith Serving.AcceptFault P = ⊥
IsOverWith Serving.Spent P = ⊥
IsOverWith Serving.NoMemory P = ⊥

-- how many links were accepted, where the server came to its own end
abbrev pub accepted_in : ServeEnd → ℕ
accepted_in (Serving.Over counts) = counts.accepted
accepted_in Serving.PollFault = 0
accepted_in Serving.AcceptFault = 0
accepted_in Serving.Spent = 0
accepted_in Serving.NoMemory = 0

-- of dispatchers whose books keep sums
module _ {P F C G : Type 0} where
  -- how many connections ended in this way, by all books
  abbrev pub ended_of : Finish → List (Kit P F C SumBook G) → ℕ
  ended_of kind kits = weigh (λ kit. (book_told kit.book).sums.ends kind) kits

  -- how many final answers were made, by all books
  abbrev pub requests_of : List (Kit P F C SumBook G) → ℕ
  requests_of kits = weigh (λ kit. (book_told kit.book).sums.moments) kits

  -- how many bytes were sent, by all books
  abbrev pub bytes_of : List (Kit P F C SumBook G) → ℕ
  bytes_of kits = weigh (λ kit. (book_told kit.book).sums.bytes) kits

  -- a connection ended in this way
  abbrev pub SomeEnded : Finish → List (Kit P F C SumBook G) → Type 0
  SomeEnded kind kits = 0 < ended_of kind kits

  -- a connection that had an opening was turned away
  abbrev pub SomeRefused : List (Kit P F C SumBook G) → Type 0
  SomeRefused kits =
      SomeEnded (TurnedAway Watches) kits
      ⊎ SomeEnded (TurnedAway Crowded) kits
      ⊎ SomeEnded (TurnedAway Poller) kits
      ⊎ SomeEnded (TurnedAway Shut) kits

  -- a connection that had an opening timed out or was turned away
  abbrev pub SomeGivenUp : List (Kit P F C SumBook G) → Type 0
  SomeGivenUp kits = SomeEnded TimedOut kits ⊎ SomeRefused kits

  -- a link was turned away before it had an opening, or a connection was given up that had one
  abbrev pub SomeTurnedAway : Counts → List (Kit P F C SumBook G) → Type 0
  SomeTurnedAway counts kits = (0 < counts.turned) ⊎ SomeGivenUp kits

  -- each link was served until its connection came to an end of its own, and none of these was want of memory
  pub record WereServed (counts : Counts) (kits : List (Kit P F C SumBook G)) : Type 0 where
    pub no_want : ¬ SomeEnded (Ended End.NoMemory) kits
    pub none_turned : ¬ SomeTurnedAway counts kits

  -- each link was served to a clean end
  pub record AreClean (counts : Counts) (kits : List (Kit P F C SumBook G)) : Type 0 where
    pub served : WereServed counts kits
    pub no_read_fault : ¬ SomeEnded (Ended End.ReadFault) kits
    pub no_write_fault : ¬ SomeEnded (Ended End.WriteFault) kits
    pub no_file_fault : ¬ SomeEnded (Ended End.FileFault) kits
    pub no_cut : ¬ SomeEnded (Ended End.Cut) kits

  -- Why a load that was served has its status. No two of these causes hold together, but for the two of a
  -- clean end, which the printing tells apart; so each status comes exactly where its cause is.
  abbrev pub EndsAs : Status → ServeEnd → List (Kit P F C SumBook G) → Type 0
  EndsAs Spent end kits = end ≡ Serving.Spent
  EndsAs PollFault end kits = end ≡ Serving.PollFault
  EndsAs AcceptFault end kits = end ≡ Serving.AcceptFault
  EndsAs NoMemory end kits =
      (end ≡ Serving.NoMemory) ⊎ IsOverWith end (λ counts. SomeEnded (Ended End.NoMemory) kits)
  EndsAs Exit.TurnedAway end kits =
      IsOverWith end (λ counts. ¬ SomeEnded (Ended End.NoMemory) kits × SomeTurnedAway counts kits)
  EndsAs ReadFault end kits =
      IsOverWith end (λ counts. WereServed counts kits × SomeEnded (Ended End.ReadFault) kits)
  EndsAs WriteFault end kits =
      IsOverWith end (λ counts.
      WereServed counts kits × ¬ SomeEnded (Ended End.ReadFault) kits × SomeEnded (Ended End.WriteFault) kits)
  EndsAs FileFault end kits =
      IsOverWith end (λ counts. WereServed counts kits × ¬ SomeEnded (Ended End.ReadFault) kits
      × ¬ SomeEnded (Ended End.WriteFault) kits × SomeEnded (Ended End.FileFault) kits)
  EndsAs Cut end kits =
      IsOverWith end (λ counts. WereServed counts kits × ¬ SomeEnded (Ended End.ReadFault) kits
      × ¬ SomeEnded (Ended End.WriteFault) kits × ¬ SomeEnded (Ended End.FileFault) kits
      × SomeEnded (Ended End.Cut) kits)
  EndsAs OutFault end kits = IsOverWith end (λ counts. AreClean counts kits)
  EndsAs Clean end kits = IsOverWith end (λ counts. AreClean counts kits)
  EndsAs Usage end kits = ⊥
  EndsAs NoSuchFolder end kits = ⊥
  EndsAs CannotListen end kits = ⊥
  EndsAs NotReady end kits = ⊥

-- a line that tells a number
abbrev pub number_line : List ℕ → ℕ → List ℕ
number_line name number = name ++ decimal number ++ codes "\n"

-- the three lines of a load that was served
abbrev pub load_lines : (connections requests bytes : ℕ) → List ℕ
load_lines connections requests bytes =
    number_line (codes "connections ") connections ++ number_line (codes "requests ") requests
    ++ number_line (codes "bytes ") bytes

-- At a clean end all of these lines were put. Where that failed, a part of them from the front was, and the
-- faults rose. At each other end nothing was.
abbrev pub Prints : Status → List ℕ → (out printed : SinkTold) → Type 0
Prints Clean lines out printed = Puts Stored lines out printed
Prints OutFault lines out printed = Puts Failed lines out printed
Prints Cut lines out printed = printed ≡ out
Prints Usage lines out printed = printed ≡ out
Prints ReadFault lines out printed = printed ≡ out
Prints WriteFault lines out printed = printed ≡ out
Prints FileFault lines out printed = printed ≡ out
Prints NoMemory lines out printed = printed ≡ out
Prints NoSuchFolder lines out printed = printed ≡ out
Prints PollFault lines out printed = printed ≡ out
Prints AcceptFault lines out printed = printed ≡ out
Prints Spent lines out printed = printed ≡ out
Prints CannotListen lines out printed = printed ≡ out
Prints NotReady lines out printed = printed ≡ out
Prints Exit.TurnedAway lines out printed = printed ≡ out

module _ {P F C G L I X : Type 0} {H : Ghosts F X} where
  -- What a server left that served a load with this many dispatchers: the passes are of what all shared and
  -- level, they keep the half of the headline that speaks of descriptors, a journal explains what each
  -- dispatcher did, and the end has its cause; no poller failed.
  pub record WasDriven (connections dispatchers : ℕ) (s : Served P F C SumBook G L I X H) : Type 0 where
    pub own : All (λ pass. AreOf (arc_value s.shared) pass) s.passes.items
    pub level : ArePassesLevel pass_view s.passes.items
    pub callbacks : KeepsCallbacks pass_view s.passes.items
    pub adds_up : ServedAddsUp book_told connections s
    pub explained : AreExplained book_told connections s.passes.items s.kits.items
    pub count : length s.kits.items ≡ dispatchers
    pub ends : EndsSo pass_view connections s.end s.passes.items 0
    pub limit : s.limit ≡ connections
    pub seconds : s.seconds ≡ 30

  -- the lines that it leads to
  abbrev pub lines_of : Served P F C SumBook G L I X H → List ℕ
  lines_of s = load_lines (accepted_in s.end) (requests_of s.kits.items) (bytes_of s.kits.items)

  -- it has this status, by its cause, and printed what belongs to it
  pub record DrivesTo (status : Status) (out printed : SinkTold)
      (s : Served P F C SumBook G L I X H) : Type 0 where
    pub caused : EndsAs status s.end s.kits.items
    pub prints : Prints status (lines_of s) out printed
