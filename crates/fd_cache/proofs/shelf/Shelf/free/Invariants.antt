use Rattle.std.proofs.Common.{ℕ, ◌<◌, IsSome}
use Rattle.fd_cache.specs.Shelf.{at}
use Rattle.fd_cache.proofs.shelf.Shelf.free.Given as goal

-- none of the entries so far is free
abbrev pub invariant-loop-k : goal.invariant-loop-k
invariant-loop-k g l = (e : ℕ) → e < l.k → IsSome (at e l.self)
