use Rattle.std.proofs.Common.{◌≡◌}
use Rattle.timeout_mgr.specs.Calls.{IsOf, name_of_watch, view_of as seen_of}
use Rattle.timeout_mgr.specs.Passes.{calls_of}
use Rattle.warp_runner.proofs.Cancelling.{Tried}
use Rattle.warp_runner.proofs.ending.cancel.Given as goal

abbrev pub invariant-loop : goal.invariant-loop
invariant-loop g l = record {
  own : IsOf l.times l.pass;
  same : name_of_watch l.left ≡ name_of_watch l.fn.watch;
  tried : Tried (name_of_watch l.fn.watch) (calls_of (seen_of l.fn.pass)) (calls_of (seen_of l.pass));
}
