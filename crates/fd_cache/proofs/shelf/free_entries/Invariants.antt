use Rattle.std.proofs.Common.{◌≡◌, ℕ, ◌≤◌, None, vec_len, vec_capacity}
use Rattle.fd_cache.specs.Shelf.{at}
use Rattle.fd_cache.proofs.shelf.free_entries.Given as goal

-- the entries so far are free, and there is room for all
abbrev pub invariant-loop : goal.invariant-loop
invariant-loop g l = record {
  count : vec_len l.entries ≡ l.counter;
  room : 256 ≤ vec_capacity l.entries;
  free : (k : ℕ) → at k l.entries.items ≡ None;
}
