use Rattle.std.proofs.Common.{◌≡◌, vec_len}
use Rattle.std.specs.Prelude.{All}
use Rattle.poller.specs.Rounds.{HasNoEntries}
use Rattle.poller.proofs.mem_net.fresh_pollers.Given as goal

-- this many were made, and nothing was added to any
abbrev pub invariant-loop-made : goal.invariant-loop-made
invariant-loop-made l = (vec_len l.pollers ≡ l._made) × All HasNoEntries l.pollers.items
