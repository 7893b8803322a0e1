-- To be believed: a dispatcher between two turns. Its passes are of what all share, and
-- a journal explains what it did.
use Rattle.std.specs.Prelude.{◌≡◌, ℕ, ◌≤◌, List, [], Any, Option, Some, None}
use Rattle.std.specs.Arc.{arc_value}
use Rattle.outside.specs.declared.files.Files.{Ghosts}
use Rattle.outside.specs.Moments.{ClockTold}
use Rattle.turn_cell.specs.declared.view.View.{View}
use Rattle.turn_cell.specs.Weights.{weigh}
use Rattle.turn_cell.specs.Calls.{view_of}
use Rattle.timeout_mgr.specs.Calls.{view_of as seen_of}
use Rattle.timeout_mgr.specs.Passes.{calls_of}
use Rattle.event_mgr.specs.Manager.{mgr_view}
use Rattle.poller.specs.Faults.{PollerFaults}
use Rattle.fd_cache.specs.declared.lease.Lease.{Lease}
use Rattle.warp_tally.specs.declared.calls.TallyEntry.{TallyEntry}
use Rattle.warp_books.specs.Books.{BookTold}
use Rattle.warp_jobs.specs.declared.job.Job.{Job}
use Rattle.warp_passes.specs.declared.shared.Shared.{Shared}
use Rattle.warp_passes.specs.declared.shared.ServePass.{ServePass}
use Rattle.warp_passes.specs.Own.{entries_of}
use Rattle.warp_passes.specs.Passes.{PassView, PassRest, AreOf, pass_view, rest_of}
use Rattle.warp_passes.specs.Levels.{HasPassGrown}
use Rattle.warp_runner.specs.Acts.{ServeTold, told_of}
use Rattle.warp_runner.specs.Journal.{Deed, DidOne, FitsUntil}
use Rattle.warp_core.specs.Events.{KeepsEvents}
use Rattle.warp_core.specs.Stops.{stops}
use Rattle.warp_core.specs.SweepTimes.{BeatTold}
use Rattle.warp_core.specs.declared.beat.Beats.{Beats}
use Rattle.warp_core.specs.declared.row.Row.{Row}
use Rattle.warp_core.specs.declared.row.Halted.{Halted}
use Rattle.warp_core.specs.declared.row.Halted.TheVariants as Halts

-- why a dispatcher makes no further turn, by how many polls and takings of a listener failed, and by what its
-- pass knows of the tally: one of these failed, or it stopped with a code of which it told the tally
abbrev pub HaltsBy : ℕ → View TallyEntry → Option Halted → Type 0
HaltsBy polls tally None = Unit {0}
HaltsBy polls tally (Some Halts.PollFault) = 1 ≤ polls
HaltsBy polls tally (Some (Halts.WithCode code)) = 1 ≤ weigh (stops code) (entries_of tally)
HaltsBy polls tally (Some Halts.Spent) = Unit {0}

-- the code of the deed that stopped a dispatcher which makes no further turn, if one did
abbrev pub stop_in : Option Halted → Option ℕ
stop_in None = None
stop_in (Some Halts.PollFault) = None
stop_in (Some (Halts.WithCode code)) = Some code
stop_in (Some Halts.Spent) = None

module _ {F X : Type 0} {H : Ghosts F X} where
  -- every how many seconds a dispatcher that keeps the beats sweeps
  abbrev pub seconds_of : Option (Beats F X H) → Option ℕ
  seconds_of None = None
  seconds_of (Some beats) = Some beats.seconds

  -- the moment of its last sweep
  abbrev pub last_of : Option (Beats F X H) → Option ℕ
  last_of None = None
  last_of (Some beats) = beats.last

module _ {P F C B G L I X : Type 0} {H : Ghosts F X} where
  -- the passes of a dispatcher
  abbrev pub passes_of : Row P F C B G L I X H → ServePass (Job P F L I X) F X H
  passes_of row = record {
    disp = row.disp;
    times = row.runner.timed;
    cache = row.runner.cached;
    tally = row.runner.tallied;
  }

  -- what they know
  abbrev pub known_by : Row P F C B G L I X H → PassView (Lease F X H)
  known_by row = pass_view (passes_of row)

  -- its passes are of what all share, which it calls
  pub record IsRowOf (s : Shared (Job P F L I X) F X H) (row : Row P F C B G L I X H) : Type 0 where
    pub passes : AreOf s (passes_of row)
    pub shared : arc_value row.runner.shared ≡ s

  -- what is known of what it did
  abbrev pub told_by : (B → BookTold) → Row P F C B G L I X H → ServeTold
  told_by told row =
      told_of (mgr_view row.disp.mgr) (view_of row.runner.tallied) (seen_of row.runner.timed)
      (told row.runner.book)

  -- a dispatcher serves: its passes are of what all share, a journal explains all that it did, and where it
  -- makes no further turn it has a cause, which is a deed of that journal where it is a code. Of the events
  -- that it got it lost none
  pub record Serves (told : B → BookTold) (faults : P → PollerFaults) (s : Shared (Job P F L I X) F X H)
      (row : Row P F C B G L I X H) : Type 0 where
    pub own : IsRowOf s row
    pub fits : FitsUntil row.runner.limit (stop_in row.halted) (told_by told row) []
    pub halts : HaltsBy (faults row.runner.poller).polls (view_of row.runner.tallied) row.halted
    pub events : KeepsEvents (known_by row)

  -- a dispatcher may make no further turn for this: where it is a code, a deed of its journal stopped with
  -- it, and where a poll failed, its poller says so
  pub record MayHalt (told : B → BookTold) (faults : P → PollerFaults) (row : Row P F C B G L I X H)
      (halted : Halted) : Type 0 where
    pub stops : FitsUntil row.runner.limit (stop_in (Some halted)) (told_by told row) []
    pub faulted : halted ≡ Halts.PollFault → 1 ≤ (faults row.runner.poller).polls

  -- one of several dispatchers did so
  abbrev pub OneDid : (B → BookTold) → ℕ → List (Row P F C B G L I X H) → (Deed → Type 0) → Type 0
  OneDid told limit rows Is = Any (λ row. DidOne limit Is (told_by told row)) rows

  -- a dispatcher went on: its passes forgot nothing and have the seats that they had, and it
  -- serves as many links as before
  pub record HasGoneOn (old new : Row P F C B G L I X H) : Type 0 where
    pub passes : HasPassGrown (known_by old) (known_by new)
    pub limit : new.runner.limit ≡ old.runner.limit

  -- what is known of its beats
  abbrev pub beat_of : (C → ClockTold) → Row P F C B G L I X H → BeatTold
  beat_of clock row = record {
    seconds = seconds_of row.beats;
    last = last_of row.beats;
    clock = clock row.runner.clock;
    calls = calls_of (seen_of row.runner.timed);
  }

-- what a dispatcher holds beside its passes of cells, as far as contracts know it
pub record Beside : Type 0 where
  pub passes : PassRest
  pub book : BookTold
  pub limit : ℕ
  pub polls : ℕ
  pub halted : Option Halted
  pub beats : BeatTold

module _ {P F C B G L I X : Type 0} {H : Ghosts F X} where
  abbrev pub beside_of : (B → BookTold) → (P → PollerFaults) → (C → ClockTold) → Row P F C B G L I X H → Beside
  beside_of told faults clock row = record {
    passes = rest_of (known_by row);
    book = told row.runner.book;
    limit = row.runner.limit;
    polls = (faults row.runner.poller).polls;
    halted = row.halted;
    beats = beat_of clock row;
  }
