use Rattle.std.specs.Arc.{arc_value}
use Rattle.std.proofs.Common.{◌≡◌, [], length}
use Rattle.turn_cell.specs.Calls.{view_of}
use Rattle.event_mgr.specs.Manager.{IsOfMgr, mgr_view}
use Rattle.timeout_mgr.specs.Calls.{view_of as seen_of}
use Rattle.dispatcher.specs.Runs.{LeavesPolls}
use Rattle.warp_runner.specs.Acts.{AreOfCells, Did, HaveGrown, told_of}
use Rattle.warp_runner.specs.Deeds.{IsTimingOut}
use Rattle.warp_runner.proofs.Turning.{GoneThrough}
use Rattle.warp_runner.proofs.runner.ServerRunner.time_out_all.Given as goal

abbrev pub invariant-loop-opening : goal.invariant-loop-opening
invariant-loop-opening g l = record {
  mgr : IsOfMgr l.mgr l.pass;
  own : AreOfCells (arc_value l.self.shared).times l.self.timed (arc_value l.self.shared).cache l.self.cached
      (arc_value l.self.shared).tally l.self.tallied;
  same : (l.self.shared ≡ l.fn.self.shared) × (l.self.limit ≡ l.fn.self.limit);
  clock : l.self.clock ≡ l.fn.self.clock;
  stays : HaveGrown (view_of l.fn.self.cached) (view_of l.self.cached) (view_of l.fn.self.tallied)
      (view_of l.self.tallied) × LeavesPolls g.P.Poller.meaning l.fn.self.poller l.self.poller;
  gone : GoneThrough IsTimingOut l.fn.expired l.expired (λ acts.
      Did (told_of (mgr_view l.fn.pass) (view_of l.fn.self.tallied) (seen_of l.fn.self.timed)
      (g.B.Book.told l.fn.self.book)) acts [] (told_of (mgr_view l.pass) (view_of l.self.tallied)
      (seen_of l.self.timed) (g.B.Book.told l.self.book)));
}

abbrev pub decreases-loop-opening : goal.decreases-loop-opening
decreases-loop-opening g l = length l.expired
