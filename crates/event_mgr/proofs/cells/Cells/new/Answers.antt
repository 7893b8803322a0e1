use Rattle.std.proofs.Common.{rules, ◌≡◌, ◌+◌, [], ◌∷◌, ◌++◌, length, sym, ap, ◌∙◌, subst, arith}
use Rattle.std.proofs.lemmas.List.{length-append}
use Rattle.std.specs.Vec.Iter.{into_iter_items}
use Rattle.turn_cell.specs.Calls.{IsOf}
use Rattle.turn_cell.specs.View.{first_view}
use Rattle.event_mgr.proofs.RowLemmas.{AreMade, AreLeft, made_start, made_next, made_row, made_first}
use Rattle.event_mgr.proofs.RowLemmas.{left_first, left_next}
use Rattle.event_mgr.proofs.cells.Cells.new.Goals as goal

pub loop-part-init : goal.loop-part-init
loop-part-init g c = record {
  cells_room = search rules;
  passes_room = search rules;
  count = search rules;
  made = search (rules, made_start);
  left = ([], search rules, search rules);
}

pub new-requires : goal.new-requires
new-requires g c =
    (c.requires.fresh (length c.loop-part.cells.items) c.in-Some.part (left_first _ _
    (into_iter_items c.next.new.self) _ _ c.in-Some.ensures.steps.0 c.loop-part.invariant.left)).1

pub loop-part-preserved : goal.loop-part-preserved
loop-part-preserved g c =
    let v = c.loop-part.invariant in
    let n = length c.loop-part.cells.items in
    let at = left_first c.args.parts.items _
    (into_iter_items c.next.new.self) n c.in-Some.part c.in-Some.ensures.steps.0 v.left in
    let name = (c.requires.fresh n c.in-Some.part at).0 in
    let cells = c.push_reserved.ensures.items in
    let passes = c.push_reserved-in-loop-part.ensures.items in
    let more : length c.push_reserved.new.self.items ≡ n + 1 =
    ap length cells ∙ length-append c.loop-part.cells.items (c.new-in-loop-part.result ∷ []) in
    let steps = c.in-Some.ensures.steps.1 in
    let count = v.count in record {
      cells_room = search rules;
      passes_room = search rules;
      count = omega arith;
      made =
          subst (λ ps. AreMade c.push_reserved.new.self.items ps) (sym passes)
          (subst (λ cs. AreMade cs (c.loop-part.passes.items ++ c.in_ok-cell.pass ∷ [])) (sym cells)
          (made_next c.loop-part.cells.items c.loop-part.passes.items
          c.new-in-loop-part.result c.in_ok-cell.pass
          (subst (λ x. IsOf x c.in_ok-cell.pass) (sym c.new-in-loop-part.ensures) c.in_ok-cell.ensures.own)
          (c.in_ok-cell.ensures.view ∙ ap first_view name) v.made));
      left =
          subst (λ k. AreLeft c.args.parts.items k (into_iter_items c.next.new.self)) (sym more)
          (left_next c.args.parts.items _
          (into_iter_items c.next.new.self) n c.in-Some.part c.in-Some.ensures.steps.0 v.left);
    }

pub returns-clause-own : goal.returns-clause-own
returns-clause-own g c =
    let v = c.loop-part.invariant in
    let count = v.count in
    let none = c.in-None.ensures.steps.0 in
    let many = c.requires.many in
    made_row c.loop-part.cells.items c.loop-part.passes.items (omega arith) v.made

pub returns-clause-views : goal.returns-clause-views
returns-clause-views g c =
    let v = c.loop-part.invariant in
    let count = v.count in
    let none = c.in-None.ensures.steps.0 in
    let many = c.requires.many in
    made_first c.loop-part.cells.items c.loop-part.passes.items (omega arith) v.made
