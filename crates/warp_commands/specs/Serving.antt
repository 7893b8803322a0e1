-- To be believed: what a server over a front leaves, how it ended, what it prints, and why it didn't begin.
use Rattle.std.specs.Prelude.{◌≡◌, ◌⊎◌, ℕ, List, ◌++◌, Option, Some, MatchOption, All, length, codes}
use Rattle.std.specs.Arc.{arc_value}
use Rattle.outside.specs.Counts.{Rises}
use Rattle.outside.specs.declared.files.Files.{Ghosts}
use Rattle.outside.specs.declared.files.RootOut.TheVariants as Roots
use Rattle.outside.specs.declared.sink.SinkOut.TheVariants.{Stored, Failed}
use Rattle.outside.specs.FileCauses.{AskedRoot, FilesTold}
use Rattle.outside.specs.Moments.{ClockTold}
use Rattle.outside.specs.SinkCauses.{Puts, SinkTold}
use Rattle.turn_cell.specs.Weights.{weigh}
use Rattle.poller.specs.Faults.{PollerFaults}
use Rattle.warp_books.specs.Books.{BookTold}
use Rattle.warp_passes.specs.Levels.{ArePassesLevel}
use Rattle.warp_passes.specs.Passes.{AreOf, pass_view}
use Rattle.warp_front.specs.Fronts.{FrontTold}
use Rattle.warp_core.specs.declared.served.ServeEnd.{ServeEnd}
use Rattle.warp_core.specs.declared.served.ServeEnd.TheVariants as Serving
use Rattle.warp_core.specs.declared.served.Served.{Served}
use Rattle.warp_core.specs.Beats.{KeptBeats}
use Rattle.warp_core.specs.Ends.{EndsSo}
use Rattle.warp_core.specs.Journals.{AreExplained}
use Rattle.warp_commands.specs.declared.status.Status.{Status}
use Rattle.warp_commands.specs.declared.status.Status.TheVariants.{Clean, Cut, Usage, ReadFault, WriteFault}
use Rattle.warp_commands.specs.declared.status.Status.TheVariants.{FileFault, NoMemory, NoSuchFolder}
use Rattle.warp_commands.specs.declared.status.Status.TheVariants.{PollFault, AcceptFault, Spent, OutFault}
use Rattle.warp_commands.specs.declared.status.Status.TheVariants.{CannotListen, NotReady, TurnedAway}
use Rattle.warp_commands.specs.Driven.{IsOverWith, accepted_in, number_line}
use Rattle.whole_runs.specs.Accounts.{ServedAddsUp}
use Rattle.warp_commands.specs.Headline.{KeepsCallbacks}
use Rattle.warp_commands.specs.ServiceWords.{ServiceTold}

-- the line that says that it listens
abbrev pub listening_line : List ℕ
listening_line = codes "listening\n"

-- both lines, with how many links were accepted
abbrev pub serving_lines : ℕ → List ℕ
serving_lines accepted = listening_line ++ number_line (codes "connections ") accepted

-- the end that a status rests on. A server that came to its own end is clean, where the
-- last line could be put
abbrev pub EndsServing : Status → ServeEnd → Type 0
EndsServing Clean end = IsOverWith end (λ counts. Unit {0})
EndsServing OutFault end = IsOverWith end (λ counts. Unit {0})
EndsServing NoMemory end = end ≡ Serving.NoMemory
EndsServing PollFault end = end ≡ Serving.PollFault
EndsServing AcceptFault end = end ≡ Serving.AcceptFault
EndsServing Spent end = end ≡ Serving.Spent
EndsServing Cut end = ⊥
EndsServing Usage end = ⊥
EndsServing ReadFault end = ⊥
EndsServing WriteFault end = ⊥
EndsServing FileFault end = ⊥
EndsServing NoSuchFolder end = ⊥
EndsServing CannotListen end = ⊥
EndsServing NotReady end = ⊥
EndsServing TurnedAway end = ⊥

-- what a server printed that was begun: both lines at a clean end, a part of both where the last
-- couldn't be put, else the first
abbrev pub PrintsServing : Status → (accepted : ℕ) → (out printed : SinkTold) → Type 0
PrintsServing Clean accepted out printed = Puts Stored (serving_lines accepted) out printed
PrintsServing OutFault accepted out printed = Puts Failed (serving_lines accepted) out printed
PrintsServing _ accepted out printed = Puts Stored listening_line out printed

-- the front was asked to listen there, and for kits over this root, and raised no fault
abbrev pub HasListened : List ℕ → ServiceTold → (old new : FrontTold) → Type 0
HasListened root service old new =
    new ≡ record { place = Some (service.address, service.port); root = Some root; faults = old.faults }

module _ {P F C B G L I X : Type 0} {H : Ghosts F X} (told : B → BookTold) (faults : P → PollerFaults)
    (clock : C → ClockTold) where
  -- What a server left: the passes are of what all shared and level, they keep the half of the headline that
  -- speaks of descriptors, a journal explains what each dispatcher did, the first one swept whenever that was
  -- due and no other one did, there were as many dispatchers as were asked for, and the end has its cause
  pub record HasServed (service : ServiceTold) (s : Served P F C B G L I X H) : Type 0 where
    pub own : All (λ pass. AreOf (arc_value s.shared) pass) s.passes.items
    pub level : ArePassesLevel pass_view s.passes.items
    pub callbacks : KeepsCallbacks pass_view s.passes.items
    pub adds_up : ServedAddsUp told service.connections s
    pub explained : AreExplained told service.connections s.passes.items s.kits.items
    pub beats : KeptBeats clock service.seconds s.passes.items s.kits.items
    pub count : length s.kits.items ≡ service.dispatchers
    pub ends : EndsSo pass_view service.connections s.end s.passes.items
        (weigh (λ kit. (faults kit.poller).polls) s.kits.items)
    pub limit : s.limit ≡ service.connections
    pub seconds : s.seconds ≡ service.seconds

-- what a server works on, as far as contracts know it
pub record ServingTold : Type 0 where
  pub files : FilesTold
  pub out : SinkTold
  pub front : FrontTold

-- Why no server was begun, by status: the root, then the front, then the first line. Nothing is
-- printed before it, and nothing is asked of the front before the root is there. Where memory was
-- wanted, it is told how far it came.
abbrev pub RefusesToServe : Status → (root : List ℕ) → ServiceTold → (old new : ServingTold) → Type 0
RefusesToServe NoSuchFolder root service old new =
    AskedRoot Roots.Absent root old.files new.files × (new.front ≡ old.front) × (new.out ≡ old.out)
RefusesToServe FileFault root service old new =
    AskedRoot Roots.Failed root old.files new.files × (new.front ≡ old.front) × (new.out ≡ old.out)
RefusesToServe CannotListen root service old new =
    AskedRoot Roots.Present root old.files new.files × Rises old.front.faults new.front.faults
    × (new.out ≡ old.out)
RefusesToServe OutFault root service old new =
    AskedRoot Roots.Present root old.files new.files × HasListened root service old.front new.front
    × Puts Failed listening_line old.out new.out
RefusesToServe NoMemory root service old new =
    (AskedRoot Roots.NoMemory root old.files new.files × (new.front ≡ old.front) × (new.out ≡ old.out))
    ⊎ (AskedRoot Roots.Present root old.files new.files × (new.front.faults ≡ old.front.faults)
    × (new.out ≡ old.out))
    ⊎ (AskedRoot Roots.Present root old.files new.files × HasListened root service old.front new.front
    × Puts Stored listening_line old.out new.out)
RefusesToServe _ root service old new = ⊥

module _ {P F C B G L I X : Type 0} {H : Ghosts F X} (told : B → BookTold) (faults : P → PollerFaults)
    (clock : C → ClockTold) where
  -- A server was begun, and left this: its root was there, the front listened where it was to, and the status
  -- and the lines are those of its end
  pub record ServesTo (status : Status) (root : List ℕ) (service : ServiceTold) (old new : ServingTold)
      (s : Served P F C B G L I X H) : Type 0 where
    pub rooted : AskedRoot Roots.Present root old.files new.files
    pub listened : HasListened root service old.front new.front
    pub served : HasServed told faults clock service s
    pub ends : EndsServing status s.end
    pub prints : PrintsServing status (accepted_in s.end) old.out new.out

  -- whoever connected was served, or why not
  abbrev pub ServesFolder : Status → (root : List ℕ) → ServiceTold → (old new : ServingTold)
      → Option (Served P F C B G L I X H) → Type 0
  ServesFolder status root service old new served =
      MatchOption served (RefusesToServe status root service old new)
      (λ s. ServesTo status root service old new s)
