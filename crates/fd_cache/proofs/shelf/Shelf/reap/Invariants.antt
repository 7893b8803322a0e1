use Rattle.std.proofs.Common.{◌≡◌, ◌*◌, ◌<◌, ◌≤◌, length}
use Rattle.fd_cache.specs.History.{closed}
use Rattle.fd_cache.specs.Shelf.{at}
use Rattle.fd_cache.proofs.Reaping.{Sweeps}
use Rattle.fd_cache.proofs.shelf.Shelf.reap.Given as goal

-- the entries so far are swept, and what was closed of them is in the basket
abbrev pub invariant-loop-k : goal.invariant-loop-k
invariant-loop-k g l = record {
  sweeps : Sweeps l.k l.fn.self l.self;
  closes : l.basket ≡ closed l.k (λ e. at e l.fn.self);
  few : length l.basket ≤ 2 * l.k;
  size : 0 < l.k → length l.fn.self ≡ 256;
}
