use Rattle.std.proofs.Common.{◌≡◌, ◌*◌, ◌≤◌}
use Rattle.std.specs.Prelude.{sum_by}
use Rattle.std.specs.List.{range_with_len}
use Rattle.warp_load.specs.LoadScripts.{load_room}
use Rattle.warp_load.proofs.sums.expected.Given as goal

-- the bytes of the connections so far are counted
abbrev pub invariant-loop-connection : goal.invariant-loop-connection
invariant-loop-connection l = record {
  counted : l.bytes ≡ sum_by (λ i. load_room l.load.seed l.load.requests i) (range_with_len 0 l.connection);
  most : l.bytes ≤ 40141019 * l.connection;
}
