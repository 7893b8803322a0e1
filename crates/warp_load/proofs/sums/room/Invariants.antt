use Rattle.std.proofs.Common.{◌≡◌, ◌+◌, ◌*◌, ◌≤◌}
use Rattle.std.specs.Prelude.{sum_by}
use Rattle.warp_load.specs.LoadScripts.{answer_length, closing_length}
use Rattle.warp_load.specs.Requests.{request_kinds}
use Rattle.warp_load.proofs.sums.room.Given as goal

-- the answers so far are counted
abbrev pub invariant-loop-request : goal.invariant-loop-request
invariant-loop-request l = record {
  counted : l.bytes ≡ sum_by answer_length (request_kinds l.load.seed l.request l.connection)
      + closing_length l.load.requests;
  most : l.bytes ≤ 40141 * l.request + 19;
}
