use Rattle.std.specs.Prelude.{◌≡◌, ◌<◌, ◌≤◌, length}
use Rattle.timeout_mgr.specs.Calls.{IsOf, view_of, HasSwept}
use Rattle.timeout_mgr.proofs.Told.{Rounds, before_at}
use Rattle.timeout_mgr.proofs.timeouts.Timeouts.sweep.Given as goal

abbrev pub invariant-loop-slot : goal.invariant-loop-slot
invariant-loop-slot l = record {
  own : IsOf l.self l.pass;
  goes : l.slot < 4096 → Rounds (view_of l.fn.pass) l.slot l.out (view_of l.pass);
  ends : l.slot ≡ 4096 → HasSwept (view_of l.fn.pass) l.out (view_of l.pass);
  few : length l.out ≤ l.slot;
}

abbrev pub ghosts-sweep_at : goal.ghosts-sweep_at
ghosts-sweep_at a = record { before = before_at a.slot a._before.now }
