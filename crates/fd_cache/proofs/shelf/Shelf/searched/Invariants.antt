use Rattle.std.proofs.Common.{ℕ, ◌<◌}
use Rattle.fd_cache.specs.History.{HasPath}
use Rattle.fd_cache.specs.Shelf.{at}
use Rattle.fd_cache.proofs.shelf.Shelf.searched.Given as goal

-- none of the entries so far has the path
abbrev pub invariant-loop-k : goal.invariant-loop-k
invariant-loop-k g l = (e : ℕ) → e < l.k → HasPath l.path (at e l.self) → ⊥
