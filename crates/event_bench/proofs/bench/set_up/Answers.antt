use Rattle.std.proofs.Common.{rules, All, [], sym, subst}
use Rattle.std.proofs.lemmas.List.Elements.{All-nil, All-cons, All-append}
use Rattle.event_mgr.specs.Manager.{IsOfMgr}
use Rattle.event_bench.proofs.bench.set_up.Goals as goal

pub loop-preserved : goal.loop-preserved
loop-preserved g c = let m = c.in_ok-mgr.mgr in record {
  count = search rules;
  room = search rules;
  first = c.in_ok-row.ensures.first;
  rows = subst (All (λ row. IsOfMgr m row.pass)) (sym c.push_reserved.ensures.items)
      (All-append (λ row. IsOfMgr m row.pass) _ _ c.loop.invariant.rows
      (All-cons (λ row. IsOfMgr m row.pass) c.in_ok-row.row
      [] c.in_ok-row.ensures.row (All-nil (λ row. IsOfMgr m row.pass))));
}
