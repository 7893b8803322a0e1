use Rattle.std.specs.Arc.{arc_value}
use Rattle.std.proofs.Common.{◌≡◌, [], map, length}
use Rattle.turn_cell.specs.Calls.{view_of}
use Rattle.stripe_table.specs.Calls.{shut_key}
use Rattle.event_mgr.specs.Manager.{MgrView}
use Rattle.timeout_mgr.specs.Calls.{view_of as seen_of}
use Rattle.dispatcher.specs.Runs.{LeavesPolls}
use Rattle.warp_jobs.specs.Tags.{tag_of}
use Rattle.warp_runner.specs.Acts.{AreOfCells, Did, HaveGrown, told_of}
use Rattle.warp_runner.specs.Deeds.{IsLetGo}
use Rattle.warp_runner.proofs.Turning.{GoneThrough}
use Rattle.warp_runner.proofs.runner.ServerRunner.let_go_all.Given as goal

abbrev pub invariant-loop-waited : goal.invariant-loop-waited
invariant-loop-waited g l = record {
  own : AreOfCells (arc_value l.self.shared).times l.self.timed (arc_value l.self.shared).cache l.self.cached
      (arc_value l.self.shared).tally l.self.tallied;
  same : (l.self.shared ≡ l.fn.self.shared) × (l.self.limit ≡ l.fn.self.limit);
  clock : l.self.clock ≡ l.fn.self.clock;
  stays : HaveGrown (view_of l.fn.self.cached) (view_of l.self.cached) (view_of l.fn.self.tallied)
      (view_of l.self.tallied) × LeavesPolls g.P.Poller.meaning l.fn.self.poller l.self.poller;
  gone : GoneThrough IsLetGo (map (shut_key (λ job. tag_of job)) l.fn.list)
      (map (shut_key (λ job. tag_of job)) l.list) (λ acts. (v : MgrView)
      → Did (told_of v (view_of l.fn.self.tallied) (seen_of l.fn.self.timed) (g.B.Book.told l.fn.self.book))
      acts [] (told_of v (view_of l.self.tallied) (seen_of l.self.timed) (g.B.Book.told l.self.book)));
}

abbrev pub decreases-loop-waited : goal.decreases-loop-waited
decreases-loop-waited g l = length l.list
