-- A dispatcher serves on where calls changed its passes.
use Rattle.std.specs.Prelude.{Option, ◌==◌}
use Rattle.std.proofs.lemmas.Bool.{eq-eqb}
use Rattle.reg_keys.specs.Tests.{one_if}
use Rattle.turn_cell.specs.declared.view.View.{View}
use Rattle.turn_cell.specs.Weights.{weigh}
use Rattle.turn_cell.specs.ListLaws.{weigh-append}
use Rattle.warp_tally.specs.declared.calls.TallyCall.TheVariants.{Stop}
use Rattle.warp_tally.specs.declared.calls.TallyEntry.{TallyEntry}
use Rattle.warp_tally.specs.declared.calls.TallyReply.{TallyReply}
use Rattle.warp_passes.specs.Own.{entries_of}
use Rattle.warp_core.specs.Events.{KeepsEvents}
use Rattle.warp_core.specs.Stops.{stops}
use Rattle.std.proofs.Common.{◌≡◌, ℕ, ◌≤◌, List, [], ◌∷◌, refl, sym, ap, ◌∙◌, subst, arith}
use Rattle.std.specs.Arc.{arc_value}
use Rattle.outside.specs.declared.files.Files.{Ghosts}
use Rattle.reg_keys.specs.declared.event.EventName.{EventName}
use Rattle.turn_cell.specs.Calls.{view_of}
use Rattle.ready_queue.specs.Calls as Queue
use Rattle.event_mgr.specs.Manager.{MgrView, mgr_view}
use Rattle.timeout_mgr.specs.Calls as TimeCalls
use Rattle.poller.specs.Faults.{PollerFaults}
use Rattle.dispatcher.specs.Stripes.{HasGrown, AllGrown}
use Rattle.dispatcher.specs.Runs.{HasMadeCalls, RunsAt}
use Rattle.dispatcher.specs.Turns as Turns
use Rattle.dispatcher.specs.Laws.{all_grown_same, all_grown_then, each_of, grown_same, grown_then}
use Rattle.warp_books.specs.Books.{BookTold}
use Rattle.warp_jobs.specs.declared.job.Job.{Job}
use Rattle.warp_passes.specs.declared.shared.Shared.{Shared}
use Rattle.warp_passes.specs.CacheCalls.{IsCacheOf}
use Rattle.warp_passes.specs.TallyCalls.{IsTallyOf, TallyEntered}
use Rattle.warp_passes.specs.Passes.{PassView}
use Rattle.warp_passes.specs.Levels.{HasPassGrown}
use Rattle.warp_runner.specs.Acts.{AreOfCells, HaveGrown}
use Rattle.warp_runner.specs.Journal.{FitsUntil}
use Rattle.warp_core.specs.declared.row.Row.{Row}
use Rattle.warp_core.specs.declared.row.Halted.{Halted}
use Rattle.warp_core.specs.Rows.{HasGoneOn, IsRowOf, HaltsBy, Serves, known_by, stop_in, told_by}
use Rattle.warp_core.proofs.Halting.{halts_on}

module _ {L : Type 0} where
  pub pass_same : (v : PassView L) → HasPassGrown v v
  pass_same v = record {
    mgr = all_grown_same v.mgr;
    queue = grown_same v.queue;
    cache = grown_same v.cache;
    tally = grown_same v.tally;
  }

  pub pass_then : (u v w : PassView L) → HasPassGrown u v → HasPassGrown v w → HasPassGrown u w
  pass_then u v w a b = record {
    mgr = all_grown_then u.mgr v.mgr w.mgr a.mgr b.mgr;
    queue = grown_then u.queue v.queue w.queue a.queue b.queue;
    cache = grown_then u.cache v.cache w.cache a.cache b.cache;
    tally = grown_then u.tally v.tally w.tally a.tally b.tally;
  }

module _ {P F C B G L I X : Type 0} {H : Ghosts F X} where
  pub goes_same : (row : Row P F C B G L I X H) → HasGoneOn row row
  goes_same row = record { passes = pass_same (known_by row); limit = refl }

  pub goes_then : (a b c : Row P F C B G L I X H) → HasGoneOn a b → HasGoneOn b c → HasGoneOn a c
  goes_then a b c x y = record {
    passes = pass_then (known_by a) (known_by b) (known_by c) x.passes y.passes;
    limit = y.limit ∙ x.limit;
  }

  -- its passes are of what all share as before
  pub own_on : (s : Shared (Job P F L I X) F X H) (x y : Row P F C B G L I X H) → IsRowOf s x
      → Turns.AreOf s.mgr s.queue y.disp
      → AreOfCells (arc_value y.runner.shared).times y.runner.timed
      (arc_value y.runner.shared).cache y.runner.cached (arc_value y.runner.shared).tally y.runner.tallied
      → y.runner.shared ≡ x.runner.shared → IsRowOf s y
  own_on s x y own disp cells same =
      let to : arc_value y.runner.shared ≡ s = ap arc_value same ∙ own.shared in record {
        passes = record {
          disp = disp;
          times =
              subst (λ (z : Shared (Job P F L I X) F X H). TimeCalls.IsOf z.times y.runner.timed)
              to cells.of_times;
          cache =
              subst (λ (z : Shared (Job P F L I X) F X H). IsCacheOf z.cache y.runner.cached)
              to cells.of_cache;
          tally =
              subst (λ (z : Shared (Job P F L I X) F X H). IsTallyOf z.tally y.runner.tallied)
              to cells.of_tally;
        };
        shared = to;
      }

  -- and they are of the cells that it calls
  pub cells_of : (s : Shared (Job P F L I X) F X H) (x : Row P F C B G L I X H) → IsRowOf s x
      → AreOfCells (arc_value x.runner.shared).times x.runner.timed
      (arc_value x.runner.shared).cache x.runner.cached (arc_value x.runner.shared).tally x.runner.tallied
  cells_of s x own =
      let from : s ≡ arc_value x.runner.shared = sym own.shared in record {
        of_times =
            subst (λ (z : Shared (Job P F L I X) F X H). TimeCalls.IsOf z.times x.runner.timed)
            from own.passes.times;
        of_cache =
            subst (λ (z : Shared (Job P F L I X) F X H). IsCacheOf z.cache x.runner.cached)
            from own.passes.cache;
        of_tally =
            subst (λ (z : Shared (Job P F L I X) F X H). IsTallyOf z.tally x.runner.tallied)
            from own.passes.tally;
      }

  -- a dispatcher went on where its passes have grown
  pub goes_by : (x y : Row P F C B G L I X H) → AllGrown (mgr_view x.disp.mgr) (mgr_view y.disp.mgr)
      → HasGrown (Queue.view_of x.disp.queue) (Queue.view_of y.disp.queue)
      → HaveGrown (view_of x.runner.cached) (view_of y.runner.cached)
      (view_of x.runner.tallied) (view_of y.runner.tallied)
      → y.runner.limit ≡ x.runner.limit → HasGoneOn x y
  goes_by x y mgr queue cells limit = record {
    passes = record { mgr = mgr; queue = queue; cache = cells.cached; tally = cells.tallied };
    limit = limit;
  }

  -- and where no event was put into the queue or taken from it
  pub goes_aside : (x y : Row P F C B G L I X H) → AllGrown (mgr_view x.disp.mgr) (mgr_view y.disp.mgr)
      → y.disp.queue ≡ x.disp.queue
      → HaveGrown (view_of x.runner.cached) (view_of y.runner.cached)
      (view_of x.runner.tallied) (view_of y.runner.tallied)
      → y.runner.limit ≡ x.runner.limit → HasGoneOn x y
  goes_aside x y mgr queue cells limit =
      goes_by x y mgr
      (subst (λ q. HasGrown (Queue.view_of x.disp.queue) (Queue.view_of q)) (sym queue)
      (grown_same (Queue.view_of x.disp.queue))) cells limit

module _ {P F C B G L I X : Type 0} {H : Ghosts F X} (told : B → BookTold) (faults : P → PollerFaults)
    (s : Shared (Job P F L I X) F X H) where
  -- a dispatcher serves on, where its journal goes on and it halts as before
  pub serves_on : (x y : Row P F C B G L I X H) → Serves told faults s x → Turns.AreOf s.mgr s.queue y.disp
      → AreOfCells (arc_value y.runner.shared).times y.runner.timed
      (arc_value y.runner.shared).cache y.runner.cached (arc_value y.runner.shared).tally y.runner.tallied
      → y.runner.shared ≡ x.runner.shared
      → FitsUntil y.runner.limit (stop_in y.halted) (told_by told y) [] → (faults x.runner.poller).polls
      ≤ (faults y.runner.poller).polls
      → HasGrown (view_of x.runner.tallied) (view_of y.runner.tallied) → y.halted ≡ x.halted
      → KeepsEvents (known_by y) → Serves told faults s y
  serves_on x y serves disp cells same fits polls tally halted events = record {
    own = own_on s x y serves.own disp cells same;
    fits = fits;
    halts =
        subst (λ (h : Option Halted). HaltsBy (faults y.runner.poller).polls (view_of y.runner.tallied) h)
        (sym halted)
        (halts_on (faults x.runner.poller).polls (faults y.runner.poller).polls (view_of x.runner.tallied)
        (view_of y.runner.tallied) x.halted polls tally serves.halts);
    events = events;
  }

module _ {P F C B G L I X : Type 0} {H : Ghosts F X} (told : B → BookTold) (faults : P → PollerFaults)
    (s : Shared (Job P F L I X) F X H) where
  -- the same, where it is said anew why it halts
  pub serves_with : (x y : Row P F C B G L I X H) → Serves told faults s x → Turns.AreOf s.mgr s.queue y.disp
      → AreOfCells (arc_value y.runner.shared).times y.runner.timed
      (arc_value y.runner.shared).cache y.runner.cached (arc_value y.runner.shared).tally y.runner.tallied
      → y.runner.shared ≡ x.runner.shared → FitsUntil y.runner.limit (stop_in y.halted) (told_by told y)
      [] → HaltsBy (faults y.runner.poller).polls (view_of y.runner.tallied) y.halted
      → KeepsEvents (known_by y) → Serves told faults s y
  serves_with x y serves disp cells same fits halts events = record {
    own = own_on s x y serves.own disp cells same;
    fits = fits;
    halts = halts;
    events = events;
  }

-- a stop that was counted or not stands among what the pass did
pub stop_noted : (code : ℕ) (r : TallyReply) (v w : View TallyEntry)
    → TallyEntered (record { call = Stop code; reply = r }) v w → 1 ≤ weigh (stops code) (entries_of w)
stop_noted code r v w entered =
    let e : TallyEntry = record { call = Stop code; reply = r } in
    let a = ap (weigh (stops code)) entered.own in
    let b = weigh-append (stops code) (entries_of v) (e ∷ []) in
    let c : one_if (code == code) ≡ 1 = ap one_if (eq-eqb code code refl) in
    omega arith

-- calls of a run let the manager's pass grow
pub made_grown : (v : MgrView) (events : List EventName) (w : MgrView) → HasMadeCalls v events w
    → AllGrown v w
made_grown v events w made = record {
  stripes = each_of RunsAt HasGrown (λ x y h. h.grown) v.stripes w.stripes made.stripes;
  numbers = made.numbers;
}
