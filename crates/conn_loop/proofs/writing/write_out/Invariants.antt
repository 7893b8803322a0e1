use Rattle.std.proofs.Common.{◌≤◌, ◌-◌, length, take}
use Rattle.conn_loop.specs.Writing.{Ran}
use Rattle.conn_loop.specs.declared.writing.WriteEnd.TheVariants.{All}
use Rattle.conn_loop.proofs.writing.write_out.Given as goal

abbrev pub invariant-loop-at : goal.invariant-loop-at
invariant-loop-at g l = record {
  within : l.at ≤ length l.bytes;
  ran : Ran All (take l.at l.bytes) (g.L.Link.told l.fn.link) (g.L.Link.told l.link);
}

abbrev pub decreases-loop-at : goal.decreases-loop-at
decreases-loop-at g l = length l.bytes - l.at
