use Rattle.std.proofs.Common.{◌<◌}
use Rattle.fd_cache.proofs.shelf.Shelf.indexed.Given as goal

-- the place is one of the index
abbrev pub invariant-loop : goal.invariant-loop
invariant-loop g l = l.place < 512
