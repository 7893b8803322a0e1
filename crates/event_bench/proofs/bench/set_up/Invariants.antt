use Rattle.std.proofs.Common.{◌≡◌, ◌≤◌, All, vec_len, vec_capacity}
use Rattle.event_mgr.specs.Manager.{IsOfMgr}
use Rattle.event_bench.proofs.bench.set_up.Given as goal

abbrev pub invariant-loop : goal.invariant-loop
invariant-loop g l = record {
  count : vec_len l.rows ≡ l.counter;
  room : l.fn.threads ≤ vec_capacity l.rows;
  first : IsOfMgr l.mgr l.first;
  rows : All (λ row. IsOfMgr l.mgr row.pass) l.rows.items;
}
