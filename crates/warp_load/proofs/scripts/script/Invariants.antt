use Rattle.std.proofs.Common.{◌≡◌, ◌*◌, ◌≤◌, vec_len}
use Rattle.warp_load.specs.Cutting.{IsCut, IsSmall}
use Rattle.warp_load.specs.Requests.{load_input}
use Rattle.warp_load.proofs.scripts.script.Given as goal

-- the requests so far are cut
abbrev pub invariant-loop-request : goal.invariant-loop-request
invariant-loop-request l = record {
  cut : IsCut l.cutter (load_input l.load.seed l.request l.connection);
  small : IsSmall l.cutter;
  seed : l.cutter.seed ≡ l.load.seed;
  connection : l.cutter.connection ≡ l.connection;
  few : vec_len l.cutter.steps ≤ 600 * l.request;
}
