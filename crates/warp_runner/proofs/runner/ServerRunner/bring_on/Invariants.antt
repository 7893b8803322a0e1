use Rattle.std.specs.Arc.{arc_value}
use Rattle.std.proofs.Common.{◌≡◌}
use Rattle.turn_cell.specs.Calls.{view_of}
use Rattle.dispatcher.specs.Stripes.{HasGrown}
use Rattle.conn_loop.specs.Steps.{to_go}
use Rattle.warp_runner.specs.Acts.{AreOfCells}
use Rattle.warp_runner.specs.Asking.{HasAsked}
use Rattle.warp_runner.specs.Deeds.{IsBroughtOn}
use Rattle.warp_runner.proofs.runner.ServerRunner.bring_on.Given as goal

abbrev pub invariant-files : goal.invariant-files
invariant-files g l = record {
  own : AreOfCells (arc_value l.self.shared).times l.self.timed (arc_value l.self.shared).cache l.self.cached
      (arc_value l.self.shared).tally l.self.tallied;
  same : (l.self.shared ≡ l.fn.self.shared) × (l.self.limit ≡ l.fn.self.limit);
  asked : HasAsked (g.C.Clock.told l.fn.self.clock) (g.C.Clock.told l.self.clock);
  grown : HasGrown (view_of l.fn.self.cached) (view_of l.self.cached);
  rest : (l.self.timed ≡ l.fn.self.timed) × (l.self.tallied ≡ l.fn.self.tallied)
      × (l.self.poller ≡ l.fn.self.poller) × (l.self.book ≡ l.fn.self.book);
  brought : IsBroughtOn l.fn.session l.session;
  number : l.session.number ≡ l.fn.session.number;
}

abbrev pub decreases-files : goal.decreases-files
decreases-files g l = to_go l.session.conn
