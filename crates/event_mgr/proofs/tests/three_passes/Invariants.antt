use Rattle.std.proofs.Common.{◌≡◌, ◌≤◌, ◌<◌, All, length, vec_capacity}
use Rattle.level.specs.Meanings.{HoldAllSeats}
use Rattle.event_mgr.specs.Manager.{IsOfMgr}
use Rattle.event_mgr.specs.Level.{mgr_meaning}
use Rattle.event_mgr.proofs.tests.three_passes.Given as goal

abbrev pub invariant-loop : goal.invariant-loop
invariant-loop l = record {
  some : 0 < l.counter;
  count : length l.passes.items ≡ l.counter;
  room : 3 ≤ vec_capacity l.passes;
  own : All (λ p. IsOfMgr l.mgr p) l.passes.items;
  seats : HoldAllSeats mgr_meaning l.passes.items;
}
