-- To be believed: a scripted poller: the openings that it keeps, and what each of its polls gives.
use Rattle.std.specs.Prelude.{◌≡◌, ℕ, ◌<◌, ◌==◌, Bool, List, [], ◌∷◌, ◌++◌, Option, Some, None, if◌then◌else◌}
use Rattle.std.specs.Prelude.{drop, length, take}
use Rattle.std.specs.List.{remove}
use Rattle.outside.specs.CallScript.{CallState, NextFails, called}
use Rattle.outside.specs.Counts.{more_by_one}
use Rattle.reg_keys.specs.declared.opening.Opening.{Opening}
use Rattle.poller.specs.declared.poller.AddOut.{AddOut}
use Rattle.poller.specs.declared.poller.AddOut.TheVariants as Adds
use Rattle.poller.specs.declared.poller.PollOut.{PollOut}
use Rattle.poller.specs.declared.poller.PollOut.TheVariants as Polls
use Rattle.poller.specs.Faults.{PollerFaults, PollsLeave}
use Rattle.poller.specs.Polls.{Report}
use Rattle.poller.specs.Rounds.{reports_of}
use Rattle.piece_net.specs.declared.piece_poller.PiecePoller.{PiecePoller}

-- the openings that it keeps, in the order in which they are reported
abbrev pub openings_of : PiecePoller → List Opening
openings_of poller = poller.openings.items

-- the numbers of the polls that fail, and how many polls there were
abbrev pub calls_of : PiecePoller → CallState
calls_of poller = record { failing = poller.failing.items; calls = poller.polls.n }

-- only polls have faults
abbrev pub faults_of : PiecePoller → PollerFaults
faults_of poller = record { links = 0; polls = poller.poll_faults.n }

-- all openings but the first one of a descriptor
abbrev pub without : ℕ → List Opening → List Opening
without fd [] = []
without fd (o ∷ os) = if o.fd == fd then os else o ∷ without fd os

-- where the first opening of a descriptor stands
abbrev pub IsPlaceFor : List Opening → ℕ → Option ℕ → Type 0
IsPlaceFor openings fd None = without fd openings ≡ openings
IsPlaceFor openings fd (Some place) =
    (place < length openings) × (without fd openings ≡ remove openings place)

-- an opening that is added comes after the others, and one of the same descriptor is kept no more; at
-- want of memory nothing changes
abbrev pub Keeping : Opening → (old new : List Opening) → AddOut → Type 0
Keeping opening old new Adds.Added = new ≡ without opening.fd old ++ opening ∷ []
Keeping opening old new Adds.NoMemory = new ≡ old
Keeping opening old new Adds.Failed = ⊥

-- a poll reports the first 1,024 openings, each in both directions
abbrev pub reports_in_turn : List Opening → List Report
reports_in_turn openings = reports_of (take 1024 openings)

-- those come after the others then
abbrev pub openings_after : List Opening → List Opening
openings_after openings = drop 1024 openings ++ take 1024 openings

-- a poll fails exactly where its number says so, and is told by the count of faults then; every other poll
-- reports openings that were added, each in its turn
abbrev pub PlaysPoll : PiecePoller → PollOut → List Report → PiecePoller → Type 0
PlaysPoll old Polls.Failed out new =
    NextFails (calls_of old) × (out ≡ []) × (openings_of new ≡ openings_of old)
    × (faults_of new ≡ record (faults_of old) { polls = more_by_one old.poll_faults.n })
PlaysPoll old Polls.Polled out new =
    (NextFails (calls_of old) → ⊥) × (out ≡ reports_in_turn (openings_of old))
    × (openings_of new ≡ openings_after (openings_of old))
    × (faults_of new ≡ faults_of old)

-- a poll plays, whether it may wait or not, and is counted
pub record IsPoll (old : PiecePoller) (idle : Bool) (result : PollOut) (out : List Report)
    (new : PiecePoller) : Type 0 where
  pub plays : PlaysPoll old result out new
  pub counted : calls_of new ≡ called (calls_of old)
  pub leaves : PollsLeave (faults_of old) (faults_of new)
