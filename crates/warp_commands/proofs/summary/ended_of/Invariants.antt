use Rattle.std.proofs.Common.{◌≡◌, ◌+◌, ◌*◌, ◌≤◌, drop}
use Rattle.turn_cell.specs.Weights.{weigh}
use Rattle.warp_books.specs.EndCounts.{book_told}
use Rattle.warp_commands.specs.Driven.{ended_of}
use Rattle.warp_commands.proofs.summary.ended_of.Given as goal

abbrev pub invariant-loop-kit : goal.invariant-loop-kit
invariant-loop-kit g l = record {
  rest : l.sum + ended_of l.kind (drop l.kit-index l.kits) ≡ ended_of l.kind l.kits;
  most : l.sum ≤ l.kit-index * 18446744073709551615;
}
