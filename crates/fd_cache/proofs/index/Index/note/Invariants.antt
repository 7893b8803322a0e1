use Rattle.std.proofs.Common.{◌<◌}
use Rattle.fd_cache.proofs.index.Index.note.Given as goal

-- the place is one of the index
abbrev pub invariant-loop : goal.invariant-loop
invariant-loop l = l.place < 512
