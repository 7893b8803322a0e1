use Rattle.std.proofs.Common.{rules, ◌≡◌, ◌+◌, length, set, refl, sym, ap, ◌∙◌, subst, arith}
use Rattle.std.specs.Prelude.{slice_get, Some}
use Rattle.std.proofs.lemmas.Option.{slice_get_read}
use Rattle.turn_cell.specs.Calls.{view_of}
use Rattle.event_mgr.proofs.RowLemmas.{SharesTo, row_set, beside_start, beside_next, all_shared}
use Rattle.event_mgr.proofs.cells.Cells.share.Goals as goal

pub loop-stripe-init : goal.loop-stripe-init
loop-stripe-init g c = record {
  end = search rules;
  from = c.requires.from;
  to = c.requires.to;
  beside = beside_start SharesTo c.args.from.now.passes.items c.args.to.now.passes.items;
}

pub loop-stripe-preserved : goal.loop-stripe-preserved
loop-stripe-preserved g c =
    let v = c.loop-stripe.invariant in
    let i = c.loop-stripe.stripe in
    let lt = c.loop-stripe-test.true in
    let end = v.end in
    let n = v.from.cells in
    let m = v.from.passes in
    let k = v.to.passes in
    let cell : slice_get c.args.self.now.cells.items i ≡ Some c.index.result.now =
    slice_get_read _ _ i c.index.result.now refl (omega arith) c.index.ensures in
    let cell2 : slice_get c.args.self.now.cells.items i
    ≡ Some c.index-in-loop-stripe.result.now = slice_get_read _ _ i c.index-in-loop-stripe.result.now refl
    (omega arith) c.index-in-loop-stripe.ensures in
    let mine : slice_get c.loop-stripe.from.passes.items i ≡ Some c.index_mut-source.result.now =
    slice_get_read _ _ i c.index_mut-source.result.now refl (omega arith) c.index_mut-source.ensures.value in
    let other : slice_get c.loop-stripe.to.passes.items i ≡ Some c.index_mut-target.result.now =
    slice_get_read _ _ i c.index_mut-target.result.now refl (omega arith) c.index_mut-target.ensures.value in
    let name = v.from.names i c.index_mut-source.result.now mine in
    let name2 = v.to.names i c.index_mut-target.result.now other in
    let left = c.in-Ok.ensures.split.left in
    let both = c.join.ensures.joined.both in record {
      end = end;
      from =
          row_set c.args.self.now.cells.items c.loop-stripe.from.passes.items i c.index.result.now
          c.split.new.pass cell (c.split.ensures.own ∙ ap (λ t. t.table.shared.table_id) c.deref.ensures)
          (ap (λ w. w.name) left ∙ name) v.from;
      to =
          row_set c.args.self.now.cells.items c.loop-stripe.to.passes.items
          i c.index-in-loop-stripe.result.now c.join.new.pass cell2
          (c.join.ensures.own ∙ ap (λ t. t.table.shared.table_id) c.deref-in-loop-stripe.ensures)
          (ap (λ w. w.name) both ∙ name2) v.to;
      beside =
          beside_next SharesTo c.args.from.now.passes.items c.args.to.now.passes.items
          c.loop-stripe.from.passes.items c.loop-stripe.to.passes.items i c.index_mut-source.result.now
          c.index_mut-target.result.now c.split.new.pass c.join.new.pass mine other
          (record {
            between = view_of c.in-Ok.other;
            split = c.in-Ok.ensures.split;
            joined = c.join.ensures.joined;
          }) v.beside;
    }

pub returns-clause-shared : goal.returns-clause-shared
returns-clause-shared g c =
    let v = c.loop-stripe.invariant in
    let n = v.from.cells in
    let m = c.requires.from.passes in
    let end = v.end in
    let test = c.loop-stripe-test.false in
    let most = c.loop-stripe.auto.stripe-end in
    all_shared c.args.from.now.passes.items c.args.to.now.passes.items c.loop-stripe.from.passes.items
    c.loop-stripe.to.passes.items c.loop-stripe.stripe (omega arith) v.beside
