-- Inner: what a connection keeps of its input between calls.
use Rattle.std.specs.Prelude.{◌≡◌, ◌⊎◌, ℕ, ◌+◌, ◌≤◌, ◌<◌, List, length, Option, Some, None}
use Rattle.app_trait.specs.declared.request.Seen.{Seen}
use Rattle.app_trait.specs.declared.request.Seen.TheVariants.{Nothing, FirstFound, FirstAbsent, SecondFound}
use Rattle.app_trait.specs.declared.request.Seen.TheVariants.{SecondAbsent}
use Rattle.warp_request.specs.LimitsAndWords.{head_limit}
use Rattle.warp_request.specs.declared.verdict.HeadInfo.{HeadInfo}
use Rattle.warp_request.specs.declared.verdict.Next.TheVariants.{Head}
use Rattle.warp_request.specs.Shown.{LiesIn}
use Rattle.warp_response.specs.Statuses.{HasPhrase}
use Rattle.conn_loop.specs.declared.step.End.{End}
use Rattle.conn_loop.specs.declared.step.End.TheVariants.{FileFault, NoMemory}
use Rattle.conn_loop.specs.declared.phase.Phase.{Phase}
use Rattle.conn_loop.specs.declared.phase.Phase.TheVariants.{Fresh, Waits, Reading, Refused, Ready, Wanting}
use Rattle.conn_loop.specs.declared.phase.Phase.TheVariants.{Sending, Unmade, Broken, Over}
use Rattle.conn_loop.specs.declared.phase.Ahead.{Ahead}
use Rattle.conn_loop.specs.declared.phase.Ahead.TheVariants.{Unread, Unfinished, Whole}
use Rattle.conn_loop.specs.declared.phase.Ahead.TheVariants as aheads
use Rattle.conn_loop.specs.Heads.{asked_in}
use Rattle.conn_loop.specs.Stages.{Stage, unread, short, reading, refusing, ready, wanting, sending, unmade}
use Rattle.conn_loop.specs.Stages.{broken, finished, looks_left, HasRoom, IsWanting, IsReadyStage}

-- how the connection ended, once it has
abbrev pub over_in : Phase → Option End
over_in Fresh = None
over_in Waits = None
over_in (Reading head reader room) = None
over_in (Refused code) = None
over_in (Ready head behind seen) = None
over_in (Wanting head behind seen) = None
over_in (Sending at size) = None
over_in (Unmade end) = None
over_in (Broken at) = None
over_in (Over end) = Some end

-- where it stands with the request at the front of this input, where this is the path that was last asked for
abbrev pub stage_in : List ℕ → List ℕ → Phase → Stage
stage_in input path Fresh = unread
stage_in input path Waits = short
stage_in input path (Reading head reader room) = reading (asked_in input head) reader room
stage_in input path (Refused code) = refusing code
stage_in input path (Ready head behind seen) = ready (asked_in input head) behind seen path
stage_in input path (Wanting head behind seen) = wanting (asked_in input head) behind seen path
stage_in input path (Sending at size) = sending at size
stage_in input path (Unmade end) = unmade end
stage_in input path (Broken at) = broken at
stage_in input path (Over end) = finished

-- a refusal can be sent with this status
abbrev pub IsRefusal : ℕ → Type 0
IsRefusal code = HasPhrase code × (400 ≤ code)

-- a head is at the front of the input, and is no longer than a head may be
pub record HasHead (input : List ℕ) (head : HeadInfo) : Type 0 where
  pub lies : LiesIn input (Head head)
  pub short : head.head_len ≤ head_limit

-- a request whose head is at the front of the input lies in it
pub record HasRequest (input : List ℕ) (head : HeadInfo) (behind : ℕ) : Type 0 where
  pub head_there : HasHead input head
  pub inside : head.head_len + behind ≤ length input

-- what is kept fits the input as it lies, where this many final answers may follow
abbrev pub IsKept : List ℕ → ℕ → Phase → Type 0
IsKept input left Fresh = Unit {0}
IsKept input left Waits = length input ≤ head_limit
IsKept input left (Reading head reader room) = HasHead input head × HasRoom reader head.framing room
IsKept input left (Refused code) = IsRefusal code
IsKept input left (Ready head behind seen) = HasRequest input head behind
IsKept input left (Wanting head behind seen) =
    HasRequest input head behind × (0 < left) × (0 < looks_left seen)
IsKept input left (Sending at size) = at < size
IsKept input left (Unmade end) = (0 < left) × ((end ≡ FileFault) ⊎ (end ≡ NoMemory))
IsKept input left (Broken at) = Unit {0}
IsKept input left (Over end) = Unit {0}

-- what was seen last is a file of this size, where it is a file
abbrev pub HasFound : Seen → Option ℕ → Type 0
HasFound Nothing size = Unit {0}
HasFound (FirstFound n mtime) size = size ≡ Some n
HasFound FirstAbsent size = Unit {0}
HasFound (SecondFound n mtime) size = size ≡ Some n
HasFound SecondAbsent size = Unit {0}

-- where a file is needed, the lease is of one with this size
abbrev pub HasLease : Phase → Option ℕ → Type 0
HasLease Fresh size = Unit {0}
HasLease Waits size = Unit {0}
HasLease (Reading head reader room) size = Unit {0}
HasLease (Refused code) size = Unit {0}
HasLease (Ready head behind seen) size = HasFound seen size
HasLease (Wanting head behind seen) size = Unit {0}
HasLease (Sending at n) size = size ≡ Some n
HasLease (Unmade end) size = Unit {0}
HasLease (Broken at) size = Unit {0}
HasLease (Over end) size = Unit {0}

-- what is ahead at a stage
abbrev pub AheadOf : Ahead → Stage → List ℕ → Type 0
AheadOf Unread stage input = stage ≡ unread
AheadOf Unfinished stage input = IsWanting stage input
AheadOf (aheads.Refused code) stage input = (stage ≡ refusing code) × IsRefusal code
AheadOf Whole stage input = IsReadyStage stage
