use Rattle.std.proofs.Common.{◌≡◌}
use Rattle.fd_cache.proofs.shelf.Shelf.note_all.Given as goal

-- the entries are what they were
abbrev pub invariant-loop-k : goal.invariant-loop-k
invariant-loop-k g l = l.self-inside.entries.items ≡ l.fn.self
